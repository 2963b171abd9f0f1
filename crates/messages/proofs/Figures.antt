-- The figures of words, one by one and two by two.
use Rattle.std.proofs.Common.{◌≡◌, ℕ, zero, suc, ◌+◌, ◌*◌, ◌/◌, List, [], ◌∷◌, map, length, get_or, slice_get, Option, sym, refl, ap, ◌∙◌, arith}
use Rattle.std.specs.Option.{unwrap_or, option_map}
use Rattle.std.specs.Simd.{first_chunks}
use Rattle.std.proofs.lemmas.Option.{unwrap_or-slice_get, slice_get-map}
use Rattle.measures.specs.declared.Ticks.{Ticks}
use Rattle.participants.specs.Participants.{unlisted}
use Rattle.messages.specs.declared.rows.OpenRow.{OpenRow}
use Rattle.messages.specs.declared.lent.Lent.{Lent}
use Rattle.messages.specs.declared.lent.Lent.TheVariants.{Words, Typed}
use Rattle.messages.specs.Kinds.{figure_of}
use Rattle.messages.specs.Lent.{lent_of}
use Rattle.messages.specs.Prices.{ticks, priced, prices_of}
use Rattle.messages.specs.Rows.{row_of, blank_row, participant_figure, paired, listed_of}
use Rattle.messages.specs.Rows.{flat}

-- the ticks of a price, and none past the end
pub get_or-ticks : (ps : List Ticks) (i : ℕ) (none : Ticks) → none.0 ≡ 0 → (get_or ps i none).0 ≡ get_or (map ticks ps) i 0
get_or-ticks [] i none z = z
get_or-ticks (p ∷ ps) zero none z = refl
get_or-ticks (p ∷ ps) (suc i) none z = get_or-ticks ps i none z

map-ticks-priced : (fs : List ℕ) → map ticks (priced fs) ≡ fs
map-ticks-priced [] = refl
map-ticks-priced (f ∷ fs) = ap (λ t. f ∷ t) (map-ticks-priced fs)

map-ticks-lent : (ps : Lent Ticks) → map ticks (lent_of priced ps) ≡ prices_of ps
map-ticks-lent (Words ws) = map-ticks-priced (map figure_of ws.now)
map-ticks-lent (Typed ps) = refl

pub price-lent : (ps : Lent Ticks) (i : ℕ) (none : Ticks) → none.0 ≡ 0 → (unwrap_or (slice_get (lent_of priced ps) i) none).0 ≡ get_or (prices_of ps) i 0
price-lent ps i none z =
    ap (λ t. t.0) (unwrap_or-slice_get (lent_of priced ps) i none) ∙ get_or-ticks (lent_of priced ps) i none z ∙ ap (λ fs. get_or fs i 0) (map-ticks-lent ps)

pub get_or-listed : (rs : List OpenRow) (i : ℕ) → listed_of (get_or rs i blank_row) ≡ get_or (map listed_of rs) i unlisted
get_or-listed [] i = refl
get_or-listed (r ∷ rs) zero = refl
get_or-listed (r ∷ rs) (suc i) = get_or-listed rs i

pub length-paired : (fs : List ℕ) → length (paired fs) ≡ length fs / 2
length-paired [] = refl
length-paired (x ∷ []) = refl
length-paired (x ∷ y ∷ fs) = omega (arith, length-paired fs)

-- the row of two words
abbrev pub row_of_pair : List ℕ → OpenRow
row_of_pair p = row_of (figure_of (get_or p 0 0)) (figure_of (get_or p 1 0))

-- the rows of words are those of their pairs
paired-chunks : (ws : List ℕ) → paired (map figure_of ws) ≡ map row_of_pair (first_chunks 2 (length ws / 2) ws)
paired-chunks [] = refl
paired-chunks (x ∷ []) = refl
paired-chunks (x ∷ y ∷ ws) =
    let n : length (x ∷ y ∷ ws) / 2 ≡ suc (length ws / 2) = omega arith in
    rw n (ap (λ rs. row_of (figure_of x) (figure_of y) ∷ rs) (paired-chunks ws))

pub get-paired : (ws : List ℕ) (pairs : List (List ℕ)) (i : ℕ) (o : Option (List ℕ)) → pairs ≡ first_chunks 2 (length ws / 2) ws → slice_get pairs i ≡ o
    → slice_get (paired (map figure_of ws)) i ≡ option_map row_of_pair o
get-paired ws pairs i o e h =
    ap (λ rs. slice_get rs i) (paired-chunks ws ∙ ap (map row_of_pair) (sym e)) ∙ slice_get-map row_of_pair pairs i ∙ ap (option_map row_of_pair) h

pub length-flat : (rs : List OpenRow) → length (flat rs) ≡ 2 * length rs
length-flat [] = refl
length-flat (r ∷ rs) = omega (arith, length-flat rs)

pub flat-first : (rs : List OpenRow) (i j : ℕ) → j ≡ 2 * i → get_or (flat rs) j 0 ≡ participant_figure (get_or rs i blank_row)
flat-first [] i j e = refl
flat-first (r ∷ rs) zero j e = let z : j ≡ 0 = omega arith in rw z
flat-first (r ∷ rs) (suc i) j e = let z : j ≡ suc (suc (2 * i)) = omega arith in rw z (flat-first rs i (2 * i) refl)

pub flat-second : (rs : List OpenRow) (i j : ℕ) → j ≡ 2 * i + 1 → get_or (flat rs) j 0 ≡ (get_or rs i blank_row).millions
flat-second [] i j e = refl
flat-second (r ∷ rs) zero j e = let z : j ≡ 1 = omega arith in rw z
flat-second (r ∷ rs) (suc i) j e = let z : j ≡ suc (suc (2 * i + 1)) = omega arith in rw z (flat-second rs i (2 * i + 1) refl)
