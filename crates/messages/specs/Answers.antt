use Rattle.std.specs.Prelude.{ℕ, List, [], ◌∷◌, Ok, Err, Option, Result}
use Rattle.rounds.specs.Stages as stage
use Rattle.messages.specs.declared.answers.Answer.{Answer}
use Rattle.messages.specs.declared.answers.Answer.TheVariants.{Tendered, Standing}
use Rattle.messages.specs.declared.faults.MessageFault.{MessageFault}
use Rattle.messages.specs.declared.kinds.Kind.TheVariants as kind
use Rattle.messages.specs.declared.verbs.Verb.{Verb}
use Rattle.messages.specs.Kinds.{word_of}
use Rattle.messages.specs.Faults.{number_of, placed_at}

-- the two words of an answer: line and lots taken of a tender, stage and price of any other accepted call,
-- number and place of a refusal
abbrev pub answer_words : Result Answer MessageFault → Option Verb → List ℕ
answer_words (Ok (Tendered t)) v = word_of kind.Line t.line ∷ word_of kind.Lots t.lots.0 ∷ []
answer_words (Ok (Standing s)) v = word_of kind.Stage (stage.number_of s.stage) ∷ word_of kind.Price s.price.0 ∷ []
answer_words (Err f) v = word_of kind.Number (number_of f) ∷ word_of kind.Place (placed_at v f) ∷ []
