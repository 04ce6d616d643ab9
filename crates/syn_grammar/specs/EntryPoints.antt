-- THE ENTRY POINTS AGREE: a union of rules reads exactly what the rules of its kinds read. Hold for every stream.
use Rattle.std.specs.Prelude.{◌≡◌, ◌↔◌, Bool, true, false, List, [], Some}
use Rattle.syn_grammar.specs.Tokens.{Stream, ◌⧺◌}
use Rattle.syn_grammar.specs.Rules.{Rule, item, derive_input}
use Rattle.syn_grammar.specs.Grammar.{Grammar, one_of, captured, among, Syntax, Node, Case, Captured, Nothing, print}
use Rattle.syn_grammar.specs.Table.{table}
use Rattle.syn_grammar.specs.Laws.{Derives}
use Rattle.syn_grammar.specs.Take.{before}
use Rattle.syn_grammar.specs.Run.{parse_rule}

-- the rules of a union of rules
abbrev pub kinds_of : Grammar → List Rule
kinds_of (one_of ks) = ks
kinds_of _ = []

-- the form is stored as its tokens
abbrev pub is_kept : Grammar → Bool
is_kept (captured g) = true
is_kept _ = false

-- this rule is a kind of that union
abbrev pub IsKind : Rule → Rule → Type 0
IsKind u k = among k (kinds_of (table u)) ≡ true

-- The union reads a value as this kind if and only if the rule of the kind reads it, with the same rest.
abbrev pub KindsAgree : Rule → Type 0
KindsAgree u = (k : Rule) (ts : Stream) (s : Syntax) (r : Stream) → (parse_rule u ts ≡ Some (Node (Case k s), r)) ↔ (IsKind u k × (parse_rule k ts ≡ Some (Node s, r)))

-- It derives a tree as this kind if and only if the rule of the kind derives it.
abbrev pub KindsDerive : Rule → Type 0
KindsDerive u = (k : Rule) (ts : Stream) (s : Syntax) → Derives u ts (Node (Case k s)) ↔ (IsKind u k × Derives k ts (Node s))

-- Every value that it reads is of one of its kinds.
abbrev pub SomeKind : Rule → Type 0
SomeKind u = (ts : Stream) (s : Syntax) (r : Stream) → parse_rule u ts ≡ Some (s, r) → (k : Rule) × (t : Syntax) × IsKind u k × (s ≡ Node (Case k t))

-- A kind that is stored as its tokens stores exactly the tokens that were read, and they are its print.
abbrev pub KeptAsRead : Rule → Type 0
KeptAsRead u = (k : Rule) (ts : Stream) (s : Syntax) (r : Stream) → is_kept (table k) ≡ true → parse_rule u ts ≡ Some (Node (Case k s), r) →
    (s ≡ Captured Nothing (before ts r)) × (ts ≡ before ts r ⧺ r) × (print (Node (Case k s)) ≡ before ts r)

-- The input of a derive is read if and only if an item of one of its three kinds is, as the same value (so with the same print), with the same rest.
abbrev pub InputsAreItems : Type 0
InputsAreItems = (k : Rule) (ts : Stream) (s : Syntax) (r : Stream) → IsKind derive_input k → (parse_rule derive_input ts ≡ Some (Node (Case k s), r)) ↔ (parse_rule item ts ≡ Some (Node (Case k s), r))

-- It is derived if and only if the item is, as the same tree.
abbrev pub InputsDeriveItems : Type 0
InputsDeriveItems = (k : Rule) (ts : Stream) (s : Syntax) → IsKind derive_input k → Derives derive_input ts (Node (Case k s)) ↔ Derives item ts (Node (Case k s))
