-- WHAT THE NEXT TOKEN TREE ALONE DECIDES of lookaheads.
use Rattle.std.specs.Prelude.{ℕ, Bool, true, false, [], ◌∷◌, nat_eq}
use Rattle.syn_grammar.specs.Words.{Text, keywords}
use Rattle.syn_grammar.specs.Tokens.{Delimiter, Paren, Brace, Bracket, delimiter_number, or, one_of_texts, Look, ended, at_name, at_word, at_mark, at_literal, at_group, at_empty_group, ahead, ◌or_else◌, ◌and_also◌, ◌but_not◌}
use Rattle.syn_tokens.specs.Delimiters.{delimiter_of}
use Rattle.syn_parse.specs.declared.buffer.first.First.{First}
use Rattle.syn_parse.specs.declared.buffer.first.First.TheVariants as F
use Rattle.syn_recognize.specs.Names.{word_text, mark_text}
use Rattle.syn_recognize.specs.declared.look.Look as look
use Rattle.syn_recognize.specs.declared.look.Look.TheVariants as Look-m

abbrev pub is_ended : First → Bool
is_ended F.Ended = true
is_ended _ = false

abbrev pub is_name : First → Bool
is_name F.Name = true
is_name _ = false

abbrev pub is_keyword : First → Bool
is_keyword F.Keyword = true
is_keyword _ = false

abbrev pub is_literal : First → Bool
is_literal F.Literal = true
is_literal _ = false

-- this character of a mark
abbrev pub is_mark : ℕ → First → Bool
is_mark e (F.Mark c) = nat_eq e c
is_mark e _ = false

abbrev pub is_group : Delimiter → First → Bool
is_group d (F.Group e) = nat_eq (delimiter_number d) (delimiter_number (delimiter_of e))
is_group d _ = false

abbrev pub is_any_group : First → Bool
is_any_group (F.Group e) = true
is_any_group _ = false

abbrev pub head_of : Text → ℕ
head_of [] = 0
head_of (c ∷ l) = c

abbrev pub is_empty_text : Text → Bool
is_empty_text [] = true
is_empty_text _ = false

-- a word that is a keyword, or another one
abbrev pub is_word : Bool → First → Bool
is_word true f = is_keyword f
is_word false f = is_name f

-- the lookahead may hold before this next token
abbrev pub may : Look → First → Bool
may ended f = is_ended f
may at_name f = is_name f
may (at_word x) f = is_word (one_of_texts x keywords) f
may (at_mark x) f = or (is_empty_text x) (is_mark (head_of x) f)
may (at_literal k) f = is_literal f
may (at_group d) f = is_group d f
may at_empty_group f = is_any_group f
may (ahead n) f = true
may (c or_else d) f = or (may c f) (may d f)
may (c and_also d) f = may c f
may (c but_not d) f = may c f

-- the lookahead holds there for sure
abbrev pub sure : Look → First → Bool
sure ended f = is_ended f
sure at_name f = is_name f
sure (at_group d) f = is_group d f
sure (c or_else d) f = or (sure c f) (sure d f)
sure _ f = false

-- the same of lookaheads as data
abbrev pub may_hold : look.Look → First → Bool
may_hold Look-m.Ended f = is_ended f
may_hold Look-m.Name f = is_name f
may_hold (Look-m.Word w) f = is_word (one_of_texts (word_text w) keywords) f
may_hold (Look-m.Mark m) f = is_mark (head_of (mark_text m)) f
may_hold (Look-m.Group d) f = is_group (delimiter_of d) f
may_hold (Look-m.Or' p c q d) f = or (may_hold c f) (may_hold d f)
may_hold (Look-m.But' p c q d) f = may_hold c f
may_hold Look-m.Integer f = is_literal f
may_hold Look-m.AnyLiteral f = is_literal f
may_hold Look-m.Lifetime f = is_mark 39 f
may_hold Look-m.InnerAttribute f = is_mark 35 f
may_hold Look-m.Arguments f = or (is_mark 60 f) (or (is_group Paren f) (is_mark 58 f))
may_hold Look-m.Association f = is_name f
may_hold Look-m.Turbofish f = is_mark 58 f
may_hold Look-m.PathWord f = or (is_name f) (is_keyword f)
may_hold Look-m.PatternPath f = or (is_mark 58 f) (or (is_mark 60 f) (or (is_keyword f) (is_name f)))
may_hold Look-m.Macro f = or (is_name f) (or (is_keyword f) (is_mark 58 f))
may_hold Look-m.BraceMacro f = or (is_name f) (or (is_keyword f) (is_mark 58 f))
may_hold Look-m.LoneCrate f = is_keyword f
may_hold Look-m.CrateMacro f = is_keyword f
may_hold Look-m.Bang f = is_mark 33 f
may_hold Look-m.PostfixMark f = or (is_mark 63 f) (is_mark 46 f)
may_hold Look-m.BlockLike f = or (is_group Brace f) (or (is_mark 39 f) (is_keyword f))
may_hold Look-m.WholeExpression f = true
may_hold Look-m.Unfinished f = or (is_group Paren f) (or (is_group Bracket f) (or (is_mark 63 f) (or (is_mark 46 f) (or (is_mark 61 f) (or (is_mark 33 f) (or (is_mark 60 f) (is_mark 62 f)))))))
may_hold Look-m.EmptyGroup f = is_any_group f
may_hold Look-m.Restriction f = is_group Paren f
may_hold Look-m.NamelessFields f = or (is_keyword f) (is_name f)
may_hold Look-m.ParameterEnd f = or (is_mark 44 f) (or (is_mark 62 f) (is_mark 61 f))
may_hold Look-m.PredicateEnd f = or (is_ended f) (or (is_group Brace f) (or (is_mark 44 f) (or (is_mark 59 f) (or (is_mark 61 f) (is_mark 58 f)))))
may_hold Look-m.Item f = or (is_name f) (or (is_keyword f) (is_mark 58 f))
may_hold Look-m.Receiver f = or (is_mark 38 f) (is_keyword f)
may_hold Look-m.Generics f = is_mark 60 f
may_hold Look-m.NoMacroItem f = or (is_keyword f) (is_name f)
may_hold Look-m.StrLiteral f = is_literal f
may_hold Look-m.BeforeColons f = true
may_hold Look-m.BeforeMacro f = true
may_hold Look-m.MarkedUnion f = is_name f
may_hold Look-m.MarkedAuto f = is_name f
may_hold Look-m.InRestriction f = is_group Paren f
may_hold Look-m.LoneWord f = is_group Paren f

-- and whether it holds there for sure
abbrev pub is_one : Text → Bool
is_one (c ∷ []) = true
is_one _ = false

abbrev pub settles : look.Look → Bool
settles Look-m.Ended = true
settles Look-m.Name = true
settles Look-m.AnyLiteral = true
settles (Look-m.Group d) = true
settles (Look-m.Mark m) = is_one (mark_text m)
settles _ = false
