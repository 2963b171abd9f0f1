use Rattle.std.proofs.Common.{◌≡◌, ℕ, zero, suc, ◌+◌, ◌*◌, ◌≤◌, List, ◌∷◌, ◌++◌, length, take, drop, refl, sym, ap, ◌∙◌, arith}
use Rattle.std.proofs.Math.Seq.{take-append_seam}
use Rattle.std.proofs.lemmas.List.{take-append-drop, length-append, length-drop}
use Rattle.std.proofs.lemmas.Slice.{take-put_mid, drop-put_mid, drop-append-drop}
use borrow.Rule.Slice.PartMut.{put_mid}
use Rattle.lines.specs.declared.fills.Fill.{Fill}
use Rattle.std.specs.Prelude.{slice_index_or}
use Rattle.lines.specs.Fills.{no_fill}
use Rattle.engine.specs.Sheets.{row_words, rows_words}

-- three words a row
pub length-rows : (fs : List Fill) (n : ℕ) → length (rows_words fs n) ≡ 3 * n
length-rows fs zero = refl
length-rows fs (suc n) = let before = length-rows fs n in let here = length-append (rows_words fs n) (row_words n (slice_index_or fs n no_fill)) in omega (arith, before, here)

-- three words written behind what stands
pub put-row : (a k : ℕ) (front old ys out : List ℕ) → length front ≡ a → k ≡ 3 → length ys ≡ 3 → a + 3 ≤ length old → out ≡ front ++ drop a old → put_mid a k out ys ≡ (front ++ ys) ++ drop (a + 3) old
put-row a k front old ys out f three y room e =
    let low : a ≤ length out = omega (arith, ap length e, length-append front (drop a old), length-drop a old) in
    let t : take (a + 3) (put_mid a k out ys) ≡ take a out ++ ys = take-put_mid a k out ys (a + 3) (omega arith) low in
    let d : drop (a + 3) (put_mid a k out ys) ≡ drop (a + 3) out = drop-put_mid a k out ys (a + 3) (omega arith) low (omega arith) in
    let ft : take a out ≡ front = ap (take a) e ∙ ap (λ m. take m (front ++ drop a old)) (sym f) ∙ take-append_seam front (drop a old) in
    let fd : drop (a + 3) out ≡ drop (a + 3) old = ap (drop (a + 3)) e ∙ drop-append-drop a old front (a + 3) (omega arith) f in
    sym (take-append-drop (a + 3) (put_mid a k out ys)) ∙ cc
