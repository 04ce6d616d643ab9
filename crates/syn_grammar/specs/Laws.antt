-- THE LAWS OF THE GRAMMAR, for every rule of the table. Unless a premise mentions visible streams, they hold for every token stream.
use Rattle.std.specs.Prelude.{◌≡◌, ◌↔◌, true}
use Rattle.syn_grammar.specs.Tokens.{Stream, end, ◌⧺◌, plain, visible}
use Rattle.syn_grammar.specs.Rules.{Rule}
use Rattle.syn_grammar.specs.Grammar.{Syntax, DerivesPrefix, rule, print, normal, plain_syntax}
use Rattle.syn_grammar.specs.Table.{table}
use Rattle.syn_grammar.specs.Run.{value_of}

-- A derivation: the rule reads the whole token stream as this syntax tree.
abbrev pub Derives : Rule → Stream → Syntax → Type 0
Derives k ts s = DerivesPrefix table (rule k) s ts end

-- The grammar is unambiguous: from one token stream a rule reads at most one syntax tree, with one rest.
abbrev pub OneTree : Type 0
OneTree = (k : Rule) (ts : Stream) (s t : Syntax) (r q : Stream) → DerivesPrefix table (rule k) s ts r → DerivesPrefix table (rule k) t ts q → (s ≡ t) × (r ≡ q)

-- Spans have no influence: of two token streams that are equal up to their spans, a rule derives the second if it derives
-- the first, and the trees are equal up to their spans.
abbrev pub SpansDecideNothing : Type 0
SpansDecideNothing = (k : Rule) (a b : Stream) (s : Syntax) → plain a ≡ plain b → Derives k a s → (u : Syntax) × Derives k b u × (plain_syntax u ≡ plain_syntax s)

-- The print of what a rule derives is derived again by that rule, and has the same normal form.
abbrev pub PrintIsRead : Type 0
PrintIsRead = (k : Rule) (ts : Stream) (s : Syntax) → Derives k ts s → (u : Syntax) × Derives k (print s) u × (normal u ≡ normal s)

-- The print of what a rule derives of a stream without invisible groups is without invisible groups.
abbrev pub PrintIsVisible : Type 0
PrintIsVisible = (k : Rule) (ts : Stream) (s : Syntax) → visible ts ≡ true → Derives k ts s → visible (print s) ≡ true

-- For every syntax tree, even one that no rule derives, the print of its normal form is its print with every span 0 to 0.
abbrev pub NormalPrints : Type 0
NormalPrints = (s : Syntax) → print (normal s) ≡ plain (print s)

-- For every syntax tree, the normal form of its normal form is its normal form.
abbrev pub NormalIsIdempotent : Type 0
NormalIsIdempotent = (s : Syntax) → normal (normal s) ≡ normal s

-- Every syntax tree has the normal form of the same tree with every span 0 to 0.
abbrev pub NormalForgetsSpans : Type 0
NormalForgetsSpans = (s : Syntax) → normal s ≡ normal (plain_syntax s)

-- Of two trees that one rule derives, the normal forms are equal if and only if the prints are equal up to spans.
abbrev pub SameForm : Type 0
SameForm = (k : Rule) (a b : Stream) (s t : Syntax) → Derives k a s → Derives k b t → (normal s ≡ normal t) ↔ (plain (print s) ≡ plain (print t))

-- Of two trees that one rule derives, the normal forms are equal if and only if those of their values are: `value_of t` is the part of a
-- derivation tree t that a parser returns. So the laws of derivation trees hold of returned values too.
abbrev pub SameValueForm : Type 0
SameValueForm = (k : Rule) (a b : Stream) (s t : Syntax) → Derives k a s → Derives k b t → (normal s ≡ normal t) ↔ (normal (value_of s) ≡ normal (value_of t))

-- This rule ends by itself, without a test of the tokens after it: what it derives of a token stream, it also reads from that stream before any rest.
abbrev pub EndsByItself : Rule → Type 0
EndsByItself k = (a r : Stream) (s : Syntax) → Derives k a s → DerivesPrefix table (rule k) s (a ⧺ r) r
