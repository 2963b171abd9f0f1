use Rattle.std.specs.Prelude.{◌≡◌, ℕ, List, Ok, Err, Result}
use Rattle.messages.specs.declared.faults.MessageFault.{MessageFault}
use Rattle.std.specs.List.{flat_map}
use Rattle.messages.specs.Calls.{Said}
use Rattle.messages.specs.Messages.{messages}
use Rattle.messages.specs.Reading.{reading}
use Rattle.messages.specs.Writing.{words_of, writing, Fits}

abbrev pub writing_read : Result Said MessageFault → List ℕ → Result ℕ MessageFault × List ℕ
writing_read (Err f) out = (Err f, out)
writing_read (Ok c) out = writing c out

-- a message read and then written at the front of a list of words: the answer, and the list afterwards
abbrev pub rewriting : List ℕ → List ℕ → Result ℕ MessageFault × List ℕ
rewriting m out = writing_read (reading m) out

-- a call written as a message reads back as that call
abbrev pub ReadsBack : Type 0
ReadsBack = (c : Said) → Fits c → reading (words_of c) ≡ Ok c

-- a message that is read and written again has the same words
abbrev pub WritesBack : Type 0
WritesBack = (m : List ℕ) (c : Said) → reading m ≡ Ok c → words_of c ≡ m

-- the messages of a list, joined, are the list
abbrev pub Rejoins : Type 0
Rejoins = (ws : List ℕ) → flat_map (λ m. m) (messages ws) ≡ ws
