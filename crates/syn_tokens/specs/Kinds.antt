-- Written by tools/tokens.py; edits are lost.
-- Words, marks and the delimiters of groups, as types and as syntax.
use Rattle.syn_tokens.specs.declared.token.delimiters.Delimiters.{Delimiters}
use Rattle.syn_tokens.specs.declared.token.kind.groups.Paren.{Paren as K_Paren}
use Rattle.syn_tokens.specs.declared.token.kind.groups.Brace.{Brace as K_Brace}
use Rattle.syn_tokens.specs.declared.token.kind.groups.Bracket.{Bracket as K_Bracket}
use Rattle.syn_tokens.specs.declared.token.kind.groups.Group.{Group as K_Group}
pub use Rattle.syn_tokens.specs.KindsOfWords.{Abstract, abstract_syntax, As, as_syntax, Async, async_syntax, Auto, auto_syntax, Await, await_syntax, Become, become_syntax, Box, box_syntax, Break, break_syntax, Const, const_syntax, Continue, continue_syntax, Crate, crate_syntax, Default, default_syntax, Do, do_syntax, Dyn, dyn_syntax, Else, else_syntax, Enum, enum_syntax, Extern, extern_syntax, False, false_syntax, Final, final_syntax, Fn, fn_syntax, For, for_syntax, If, if_syntax, Impl, impl_syntax, In, in_syntax, Let, let_syntax, Loop, loop_syntax, Macro, macro_syntax, Match, match_syntax, Mod, mod_syntax, Move, move_syntax, Mut, mut_syntax, Override, override_syntax, Priv, priv_syntax, Pub, pub_syntax, Ref, ref_syntax, Return, return_syntax, Safe, safe_syntax, SelfType, self_type_syntax, SelfValue, self_value_syntax, Static, static_syntax, Struct, struct_syntax, Super, super_syntax, Trait, trait_syntax, True, true_syntax, Try, try_syntax, «Type», type_syntax, Typeof, typeof_syntax, Underscore, underscore_syntax, Union, union_syntax, Unsafe, unsafe_syntax, Unsized, unsized_syntax, Use, use_syntax, Virtual, virtual_syntax, Where, where_syntax, While, while_syntax, Yield, yield_syntax}
pub use Rattle.syn_tokens.specs.KindsOfMarks.{And, and_syntax, AndAnd, and_and_syntax, AndEq, and_eq_syntax, At, at_syntax, Caret, caret_syntax, CaretEq, caret_eq_syntax, Colon, colon_syntax, Comma, comma_syntax, Dollar, dollar_syntax, Dot, dot_syntax, DotDot, dot_dot_syntax, DotDotDot, dot_dot_dot_syntax, Eq, eq_syntax, EqEq, eq_eq_syntax, FatArrow, fat_arrow_syntax, Ge, ge_syntax, Gt, gt_syntax, Le, le_syntax, Lt, lt_syntax, Minus, minus_syntax, MinusEq, minus_eq_syntax, Ne, ne_syntax, Not, not_syntax, Or, or_syntax, OrEq, or_eq_syntax, OrOr, or_or_syntax, PathSep, path_sep_syntax, Percent, percent_syntax, PercentEq, percent_eq_syntax, Plus, plus_syntax, PlusEq, plus_eq_syntax, Pound, pound_syntax, Question, question_syntax, RArrow, r_arrow_syntax, Semi, semi_syntax, Shl, shl_syntax, ShlEq, shl_eq_syntax, Shr, shr_syntax, ShrEq, shr_eq_syntax, Slash, slash_syntax, SlashEq, slash_eq_syntax, Star, star_syntax, StarEq, star_eq_syntax, Tilde, tilde_syntax}

abbrev pub Paren : Type 0
Paren = Delimiters K_Paren

abbrev pub Brace : Type 0
Brace = Delimiters K_Brace

abbrev pub Bracket : Type 0
Bracket = Delimiters K_Bracket

abbrev pub Group : Type 0
Group = Delimiters K_Group
