-- How the program tells its end.
--     status_number status     the exit status
--     line_of_end status       the line on standard error, with its line feed
--     IsTold .. status         that line was written, or the writing failed
use Rattle.std.specs.Prelude.{◌≡◌, ℕ, ◌⊎◌, List, [], ◌∷◌, ◌++◌, codes, decimal, Option}
use Rattle.std.specs.Io.KnownBytes.{append_known}
use Rattle.fab_base.specs.Counts.{Rose}
use Rattle.fab_base.specs.declared.status.Status.{Status}
use Rattle.fab_base.specs.declared.status.Status.TheVariants.{Done, Stuck, Usage, ScriptRefused, TooLong, ReadFault, WriteFault, NoMemory}
use Rattle.fab_base.specs.declared.status.Why.{Why}
use Rattle.fab_base.specs.declared.status.Why.TheVariants.{NotText, Header, Verb, Order, Twice, Words, Number, Peer, Limit, NoData, Missing, FileRange}
use Rattle.fab_host.specs.declared.command.WordsRefused.{WordsRefused}
use Rattle.fab_host.specs.declared.command.WordsRefused.TheVariants.{NotText as WordIsNoText, NoMemory as WordsLackMemory}

abbrev pub status_number : Status → ℕ
status_number Done = 0
status_number Stuck = 1
status_number Usage = 2
status_number (ScriptRefused line why) = 3
status_number (TooLong name) = 4
status_number (ReadFault name) = 5
status_number WriteFault = 6
status_number NoMemory = 7

-- the status where there are no words: a word that is no text is no command
abbrev pub status_without : WordsRefused → Status
status_without WordIsNoText = Usage
status_without WordsLackMemory = NoMemory

abbrev pub why_name : Why → List ℕ
why_name NotText = codes "NotText"
why_name Header = codes "Header"
why_name Verb = codes "Verb"
why_name Order = codes "Order"
why_name Twice = codes "Twice"
why_name Words = codes "Words"
why_name Number = codes "Number"
why_name Peer = codes "Peer"
why_name Limit = codes "Limit"
why_name NoData = codes "NoData"
why_name Missing = codes "Missing"
why_name FileRange = codes "FileRange"

abbrev pub line_of_end : Status → List ℕ
line_of_end Done = []
line_of_end Stuck = []
line_of_end Usage = codes "usage: fabric_pingpong script FILE | pingpong FILE SIZE COUNT | bandwidth FILE SIZE COUNT WINDOW | gen NUMBER PEERS MESSAGES | info CAPS | window NUMBER PEERS WORDS ADDS | coll FILE | replay FILE TRACE" ++ 10 ∷ []
line_of_end (ScriptRefused line why) = codes "script refused at line " ++ decimal line ++ codes ": " ++ why_name why ++ 10 ∷ []
line_of_end (TooLong name) = codes "too long: " ++ name ++ 10 ∷ []
line_of_end (ReadFault name) = codes "read fault: " ++ name ++ 10 ∷ []
line_of_end WriteFault = codes "write fault" ++ 10 ∷ []
line_of_end NoMemory = codes "out of memory" ++ 10 ∷ []

-- the line of this end was written, or the count of faults of where it is written rose
abbrev pub IsTold : Option (List ℕ) → Option (List ℕ) → ℕ → ℕ → Status → Type 0
IsTold before after faults faults' status = (after ≡ append_known before (line_of_end status)) ⊎ Rose faults faults'
