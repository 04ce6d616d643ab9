-- Written by tools/tokens.py; edits are lost.
-- Marks as types and as syntax.
use Rattle.std.specs.Prelude.{[], ◌∷◌}
use Rattle.syn_grammar.specs.Grammar.{Syntax}
use Rattle.syn_tokens.specs.Leaves.{syntax_of_mark}
use Rattle.syn_tokens.specs.declared.token.mark.Mark.{Mark}
use Rattle.syn_tokens.specs.declared.token.kind.marks.And.{And as K_And}
use Rattle.syn_tokens.specs.declared.token.kind.marks.At.{At as K_At}
use Rattle.syn_tokens.specs.declared.token.kind.marks.Caret.{Caret as K_Caret}
use Rattle.syn_tokens.specs.declared.token.kind.marks.Colon.{Colon as K_Colon}
use Rattle.syn_tokens.specs.declared.token.kind.marks.Comma.{Comma as K_Comma}
use Rattle.syn_tokens.specs.declared.token.kind.marks.Dollar.{Dollar as K_Dollar}
use Rattle.syn_tokens.specs.declared.token.kind.marks.Dot.{Dot as K_Dot}
use Rattle.syn_tokens.specs.declared.token.kind.marks.Eq.{Eq as K_Eq}
use Rattle.syn_tokens.specs.declared.token.kind.marks.Gt.{Gt as K_Gt}
use Rattle.syn_tokens.specs.declared.token.kind.marks.Lt.{Lt as K_Lt}
use Rattle.syn_tokens.specs.declared.token.kind.marks.Minus.{Minus as K_Minus}
use Rattle.syn_tokens.specs.declared.token.kind.marks.Not.{Not as K_Not}
use Rattle.syn_tokens.specs.declared.token.kind.marks.Or.{Or as K_Or}
use Rattle.syn_tokens.specs.declared.token.kind.marks.Percent.{Percent as K_Percent}
use Rattle.syn_tokens.specs.declared.token.kind.marks.Plus.{Plus as K_Plus}
use Rattle.syn_tokens.specs.declared.token.kind.marks.Pound.{Pound as K_Pound}
use Rattle.syn_tokens.specs.declared.token.kind.marks.Question.{Question as K_Question}
use Rattle.syn_tokens.specs.declared.token.kind.marks.Semi.{Semi as K_Semi}
use Rattle.syn_tokens.specs.declared.token.kind.marks.Slash.{Slash as K_Slash}
use Rattle.syn_tokens.specs.declared.token.kind.marks.Star.{Star as K_Star}
use Rattle.syn_tokens.specs.declared.token.kind.marks.Tilde.{Tilde as K_Tilde}
use Rattle.syn_tokens.specs.declared.token.kind.long_marks.AndAnd.{AndAnd as K_AndAnd}
use Rattle.syn_tokens.specs.declared.token.kind.long_marks.AndEq.{AndEq as K_AndEq}
use Rattle.syn_tokens.specs.declared.token.kind.long_marks.CaretEq.{CaretEq as K_CaretEq}
use Rattle.syn_tokens.specs.declared.token.kind.long_marks.DotDot.{DotDot as K_DotDot}
use Rattle.syn_tokens.specs.declared.token.kind.long_marks.DotDotDot.{DotDotDot as K_DotDotDot}
use Rattle.syn_tokens.specs.declared.token.kind.long_marks.EqEq.{EqEq as K_EqEq}
use Rattle.syn_tokens.specs.declared.token.kind.long_marks.FatArrow.{FatArrow as K_FatArrow}
use Rattle.syn_tokens.specs.declared.token.kind.long_marks.Ge.{Ge as K_Ge}
use Rattle.syn_tokens.specs.declared.token.kind.long_marks.Le.{Le as K_Le}
use Rattle.syn_tokens.specs.declared.token.kind.long_marks.MinusEq.{MinusEq as K_MinusEq}
use Rattle.syn_tokens.specs.declared.token.kind.long_marks.Ne.{Ne as K_Ne}
use Rattle.syn_tokens.specs.declared.token.kind.long_marks.OrEq.{OrEq as K_OrEq}
use Rattle.syn_tokens.specs.declared.token.kind.long_marks.OrOr.{OrOr as K_OrOr}
use Rattle.syn_tokens.specs.declared.token.kind.long_marks.PathSep.{PathSep as K_PathSep}
use Rattle.syn_tokens.specs.declared.token.kind.long_marks.PercentEq.{PercentEq as K_PercentEq}
use Rattle.syn_tokens.specs.declared.token.kind.long_marks.PlusEq.{PlusEq as K_PlusEq}
use Rattle.syn_tokens.specs.declared.token.kind.long_marks.RArrow.{RArrow as K_RArrow}
use Rattle.syn_tokens.specs.declared.token.kind.long_marks.Shl.{Shl as K_Shl}
use Rattle.syn_tokens.specs.declared.token.kind.long_marks.ShlEq.{ShlEq as K_ShlEq}
use Rattle.syn_tokens.specs.declared.token.kind.long_marks.Shr.{Shr as K_Shr}
use Rattle.syn_tokens.specs.declared.token.kind.long_marks.ShrEq.{ShrEq as K_ShrEq}
use Rattle.syn_tokens.specs.declared.token.kind.long_marks.SlashEq.{SlashEq as K_SlashEq}
use Rattle.syn_tokens.specs.declared.token.kind.long_marks.StarEq.{StarEq as K_StarEq}

abbrev pub And : Type 0
And = Mark K_And 1

abbrev pub and_syntax : And → Syntax
and_syntax m = syntax_of_mark (38 ∷ []) m.spans

abbrev pub At : Type 0
At = Mark K_At 1

abbrev pub at_syntax : At → Syntax
at_syntax m = syntax_of_mark (64 ∷ []) m.spans

abbrev pub Caret : Type 0
Caret = Mark K_Caret 1

abbrev pub caret_syntax : Caret → Syntax
caret_syntax m = syntax_of_mark (94 ∷ []) m.spans

abbrev pub Colon : Type 0
Colon = Mark K_Colon 1

abbrev pub colon_syntax : Colon → Syntax
colon_syntax m = syntax_of_mark (58 ∷ []) m.spans

abbrev pub Comma : Type 0
Comma = Mark K_Comma 1

abbrev pub comma_syntax : Comma → Syntax
comma_syntax m = syntax_of_mark (44 ∷ []) m.spans

abbrev pub Dollar : Type 0
Dollar = Mark K_Dollar 1

abbrev pub dollar_syntax : Dollar → Syntax
dollar_syntax m = syntax_of_mark (36 ∷ []) m.spans

abbrev pub Dot : Type 0
Dot = Mark K_Dot 1

abbrev pub dot_syntax : Dot → Syntax
dot_syntax m = syntax_of_mark (46 ∷ []) m.spans

abbrev pub Eq : Type 0
Eq = Mark K_Eq 1

abbrev pub eq_syntax : Eq → Syntax
eq_syntax m = syntax_of_mark (61 ∷ []) m.spans

abbrev pub Gt : Type 0
Gt = Mark K_Gt 1

abbrev pub gt_syntax : Gt → Syntax
gt_syntax m = syntax_of_mark (62 ∷ []) m.spans

abbrev pub Lt : Type 0
Lt = Mark K_Lt 1

abbrev pub lt_syntax : Lt → Syntax
lt_syntax m = syntax_of_mark (60 ∷ []) m.spans

abbrev pub Minus : Type 0
Minus = Mark K_Minus 1

abbrev pub minus_syntax : Minus → Syntax
minus_syntax m = syntax_of_mark (45 ∷ []) m.spans

abbrev pub Not : Type 0
Not = Mark K_Not 1

abbrev pub not_syntax : Not → Syntax
not_syntax m = syntax_of_mark (33 ∷ []) m.spans

abbrev pub Or : Type 0
Or = Mark K_Or 1

abbrev pub or_syntax : Or → Syntax
or_syntax m = syntax_of_mark (124 ∷ []) m.spans

abbrev pub Percent : Type 0
Percent = Mark K_Percent 1

abbrev pub percent_syntax : Percent → Syntax
percent_syntax m = syntax_of_mark (37 ∷ []) m.spans

abbrev pub Plus : Type 0
Plus = Mark K_Plus 1

abbrev pub plus_syntax : Plus → Syntax
plus_syntax m = syntax_of_mark (43 ∷ []) m.spans

abbrev pub Pound : Type 0
Pound = Mark K_Pound 1

abbrev pub pound_syntax : Pound → Syntax
pound_syntax m = syntax_of_mark (35 ∷ []) m.spans

abbrev pub Question : Type 0
Question = Mark K_Question 1

abbrev pub question_syntax : Question → Syntax
question_syntax m = syntax_of_mark (63 ∷ []) m.spans

abbrev pub Semi : Type 0
Semi = Mark K_Semi 1

abbrev pub semi_syntax : Semi → Syntax
semi_syntax m = syntax_of_mark (59 ∷ []) m.spans

abbrev pub Slash : Type 0
Slash = Mark K_Slash 1

abbrev pub slash_syntax : Slash → Syntax
slash_syntax m = syntax_of_mark (47 ∷ []) m.spans

abbrev pub Star : Type 0
Star = Mark K_Star 1

abbrev pub star_syntax : Star → Syntax
star_syntax m = syntax_of_mark (42 ∷ []) m.spans

abbrev pub Tilde : Type 0
Tilde = Mark K_Tilde 1

abbrev pub tilde_syntax : Tilde → Syntax
tilde_syntax m = syntax_of_mark (126 ∷ []) m.spans

abbrev pub AndAnd : Type 0
AndAnd = Mark K_AndAnd 2

abbrev pub and_and_syntax : AndAnd → Syntax
and_and_syntax m = syntax_of_mark (38 ∷ 38 ∷ []) m.spans

abbrev pub AndEq : Type 0
AndEq = Mark K_AndEq 2

abbrev pub and_eq_syntax : AndEq → Syntax
and_eq_syntax m = syntax_of_mark (38 ∷ 61 ∷ []) m.spans

abbrev pub CaretEq : Type 0
CaretEq = Mark K_CaretEq 2

abbrev pub caret_eq_syntax : CaretEq → Syntax
caret_eq_syntax m = syntax_of_mark (94 ∷ 61 ∷ []) m.spans

abbrev pub DotDot : Type 0
DotDot = Mark K_DotDot 2

abbrev pub dot_dot_syntax : DotDot → Syntax
dot_dot_syntax m = syntax_of_mark (46 ∷ 46 ∷ []) m.spans

abbrev pub DotDotDot : Type 0
DotDotDot = Mark K_DotDotDot 3

abbrev pub dot_dot_dot_syntax : DotDotDot → Syntax
dot_dot_dot_syntax m = syntax_of_mark (46 ∷ 46 ∷ 46 ∷ []) m.spans

abbrev pub EqEq : Type 0
EqEq = Mark K_EqEq 2

abbrev pub eq_eq_syntax : EqEq → Syntax
eq_eq_syntax m = syntax_of_mark (61 ∷ 61 ∷ []) m.spans

abbrev pub FatArrow : Type 0
FatArrow = Mark K_FatArrow 2

abbrev pub fat_arrow_syntax : FatArrow → Syntax
fat_arrow_syntax m = syntax_of_mark (61 ∷ 62 ∷ []) m.spans

abbrev pub Ge : Type 0
Ge = Mark K_Ge 2

abbrev pub ge_syntax : Ge → Syntax
ge_syntax m = syntax_of_mark (62 ∷ 61 ∷ []) m.spans

abbrev pub Le : Type 0
Le = Mark K_Le 2

abbrev pub le_syntax : Le → Syntax
le_syntax m = syntax_of_mark (60 ∷ 61 ∷ []) m.spans

abbrev pub MinusEq : Type 0
MinusEq = Mark K_MinusEq 2

abbrev pub minus_eq_syntax : MinusEq → Syntax
minus_eq_syntax m = syntax_of_mark (45 ∷ 61 ∷ []) m.spans

abbrev pub Ne : Type 0
Ne = Mark K_Ne 2

abbrev pub ne_syntax : Ne → Syntax
ne_syntax m = syntax_of_mark (33 ∷ 61 ∷ []) m.spans

abbrev pub OrEq : Type 0
OrEq = Mark K_OrEq 2

abbrev pub or_eq_syntax : OrEq → Syntax
or_eq_syntax m = syntax_of_mark (124 ∷ 61 ∷ []) m.spans

abbrev pub OrOr : Type 0
OrOr = Mark K_OrOr 2

abbrev pub or_or_syntax : OrOr → Syntax
or_or_syntax m = syntax_of_mark (124 ∷ 124 ∷ []) m.spans

abbrev pub PathSep : Type 0
PathSep = Mark K_PathSep 2

abbrev pub path_sep_syntax : PathSep → Syntax
path_sep_syntax m = syntax_of_mark (58 ∷ 58 ∷ []) m.spans

abbrev pub PercentEq : Type 0
PercentEq = Mark K_PercentEq 2

abbrev pub percent_eq_syntax : PercentEq → Syntax
percent_eq_syntax m = syntax_of_mark (37 ∷ 61 ∷ []) m.spans

abbrev pub PlusEq : Type 0
PlusEq = Mark K_PlusEq 2

abbrev pub plus_eq_syntax : PlusEq → Syntax
plus_eq_syntax m = syntax_of_mark (43 ∷ 61 ∷ []) m.spans

abbrev pub RArrow : Type 0
RArrow = Mark K_RArrow 2

abbrev pub r_arrow_syntax : RArrow → Syntax
r_arrow_syntax m = syntax_of_mark (45 ∷ 62 ∷ []) m.spans

abbrev pub Shl : Type 0
Shl = Mark K_Shl 2

abbrev pub shl_syntax : Shl → Syntax
shl_syntax m = syntax_of_mark (60 ∷ 60 ∷ []) m.spans

abbrev pub ShlEq : Type 0
ShlEq = Mark K_ShlEq 3

abbrev pub shl_eq_syntax : ShlEq → Syntax
shl_eq_syntax m = syntax_of_mark (60 ∷ 60 ∷ 61 ∷ []) m.spans

abbrev pub Shr : Type 0
Shr = Mark K_Shr 2

abbrev pub shr_syntax : Shr → Syntax
shr_syntax m = syntax_of_mark (62 ∷ 62 ∷ []) m.spans

abbrev pub ShrEq : Type 0
ShrEq = Mark K_ShrEq 3

abbrev pub shr_eq_syntax : ShrEq → Syntax
shr_eq_syntax m = syntax_of_mark (62 ∷ 62 ∷ 61 ∷ []) m.spans

abbrev pub SlashEq : Type 0
SlashEq = Mark K_SlashEq 2

abbrev pub slash_eq_syntax : SlashEq → Syntax
slash_eq_syntax m = syntax_of_mark (47 ∷ 61 ∷ []) m.spans

abbrev pub StarEq : Type 0
StarEq = Mark K_StarEq 2

abbrev pub star_eq_syntax : StarEq → Syntax
star_eq_syntax m = syntax_of_mark (42 ∷ 61 ∷ []) m.spans
