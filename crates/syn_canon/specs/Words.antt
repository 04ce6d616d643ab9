-- THE WORDS OF THE PROGRAM, each as bytes.
use Rattle.std.specs.Prelude.{◌≡◌, ℕ, List, [], ◌∷◌, map, String, codes, string_bytes}
use Rattle.std.specs.declared.alloc.Global.{Global}
use Rattle.syn_canon.specs.declared.command.Command.{Command}
use Rattle.syn_canon.specs.declared.command.Command.TheVariants.{Print, Check, List as Listing}
use Rattle.syn_texts.specs.Kinds.{word_of}

-- how a command is written
abbrev pub words_of : Command → List (List ℕ)
words_of (Print kind) = codes "print" ∷ word_of kind ∷ []
words_of (Check kind) = codes "check" ∷ word_of kind ∷ []
words_of Listing = codes "list" ∷ []

-- these words are this command
abbrev pub IsCommand : List (String Global) → Command → Type 0
IsCommand words command = map string_bytes words ≡ words_of command

-- these words are no command
abbrev pub NoCommand : List (String Global) → Type 0
NoCommand words = (command : Command) → IsCommand words command → ⊥
