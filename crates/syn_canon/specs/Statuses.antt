-- HOW THE PROGRAM ENDS WITHOUT OUTPUT.
use Rattle.std.specs.Prelude.{ℕ, Bool, true, false, List, [], ◌∷◌, ◌++◌, codes}
use Rattle.std.specs.Fmt.{decimal}
use Rattle.syn_tokens.specs.Faults.{FaultValue, ErrorValue, syntax_error, too_deep, out_of_memory, faults_of}
use Rattle.syn_canon.specs.declared.failure.Failure.{Failure}
use Rattle.syn_canon.specs.declared.failure.Failure.TheVariants.{Usage, ReadFailed, NotUtf8, Refused, WriteFailed, OutOfMemory}

-- the exit status: 1 where the input is refused or a read or a write fails, 2 where the words are no command, 3 where memory is refused
abbrev pub status_of : Failure → ℕ
status_of Usage = 2
status_of ReadFailed = 1
status_of NotUtf8 = 1
status_of (Refused e) = 1
status_of WriteFailed = 1
status_of OutOfMemory = 3

-- the words and the text alone decide it: no memory was refused, and no read or write failed
abbrev pub is_decided : Failure → Bool
is_decided Usage = true
is_decided ReadFailed = false
is_decided NotUtf8 = true
is_decided (Refused e) = true
is_decided WriteFailed = false
is_decided OutOfMemory = false

-- the line for these faults: the first one
abbrev pub line_for : List FaultValue → List ℕ
line_for [] = codes "out of memory"
line_for (fault ∷ faults) = codes "refused at " ++ (decimal fault.0.start ++ (codes ": " ++ fault.1))

-- the line that is written, without its newline
abbrev pub line_of : Failure → List ℕ
line_of Usage = codes "usage: syn_canon print|check KIND, or syn_canon list"
line_of ReadFailed = codes "read failed"
line_of NotUtf8 = codes "refused at 0: input is not UTF-8"
line_of (Refused error) = line_for (faults_of error)
line_of WriteFailed = codes "write failed"
line_of OutOfMemory = codes "out of memory"

-- what an error of the library means; nothing is too deep for the calls of the program
abbrev pub failure_of : ErrorValue → Failure
failure_of out_of_memory = OutOfMemory
failure_of (too_deep span) = OutOfMemory
failure_of (syntax_error faults) = Refused (syntax_error faults)
