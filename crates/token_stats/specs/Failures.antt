-- HOW THE PROGRAM ENDS WITHOUT ITS LINES.
use Rattle.std.specs.Prelude.{ℕ, List, [], ◌∷◌, ◌++◌, codes}
use Rattle.std.specs.Fmt.{decimal}
use Rattle.syn_tokens.specs.Faults.{FaultValue, faults_of}
use Rattle.token_stats.specs.declared.failure.Failure.{Failure}
use Rattle.token_stats.specs.declared.failure.Failure.TheVariants.{ReadFailed, NotUtf8, Refused, WriteFailed, OutOfMemory}

-- the line for these faults: the first one
abbrev pub line_for : List FaultValue → List ℕ
line_for [] = codes "out of memory"
line_for (fault ∷ faults) = codes "refused at " ++ (decimal fault.0.start ++ (codes ": " ++ fault.1))

-- the line that is written, without its newline
abbrev pub line_of : Failure → List ℕ
line_of ReadFailed = codes "read failed"
line_of NotUtf8 = codes "refused at 0: input is not UTF-8"
line_of (Refused error) = line_for (faults_of error)
line_of WriteFailed = codes "write failed"
line_of OutOfMemory = codes "out of memory"
