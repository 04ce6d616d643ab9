-- What expressions begin with, and what none ends before, by peeks.
use Rattle.std.proofs.Common.{◌≡◌, Bool, true, false, refl, ap, ◌∙◌}
use Rattle.syn_grammar.specs.Words.{w_break, w_continue, w_false, w_for, w_if, w_loop, w_return, w_true, w_unsafe, w_while, equal_equal, not_equals}
use Rattle.syn_grammar.specs.Tokens.{Stream, or, ◌or_else◌, Look, at_lifetime, at_mark, at_path_word, at_word}
use Rattle.syn_grammar.specs.Table.{at_ampersand, at_any_literal, at_brace, at_bracket, at_colons, at_dot, at_exclamation, at_greater, at_less, at_minus, at_paren, at_pound, at_question, at_star, at_unfinished, at_whole_expression}
use Rattle.syn_grammar.specs.Take.{sees}

-- a row of conditions, in parts
pub after_six : (a b c d e f x : Bool) → or a (or b (or c (or d (or e (or f x))))) ≡ or (or a (or b (or c (or d (or e f))))) x
after_six true b c d e f x = refl
after_six false true c d e f x = refl
after_six false false true d e f x = refl
after_six false false false true e f x = refl
after_six false false false false true f x = refl
after_six false false false false false f x = refl

after_eight : (a b c d e f g h x : Bool) → or a (or b (or c (or d (or e (or f (or g (or h x))))))) ≡ or (or a (or b (or c (or d (or e (or f (or g h))))))) x
after_eight true b c d e f g h x = refl
after_eight false true c d e f g h x = refl
after_eight false false c d e f g h x = after_six c d e f g h x

abbrev literal_or_path : Look
literal_or_path = at_any_literal or_else at_word w_true or_else at_word w_false or_else at_path_word or_else at_colons or_else at_less

abbrev expression_word : Look
expression_word = at_word w_if or_else at_word w_loop or_else at_word w_while or_else at_word w_for or_else at_word w_unsafe or_else at_word w_return or_else at_word w_break or_else at_word w_continue

abbrev group_or_sign : Look
group_or_sign = at_paren or_else at_bracket or_else at_brace or_else at_minus or_else at_exclamation or_else at_star or_else at_ampersand or_else at_pound or_else at_lifetime

pub whole_expression_seen : (ts : Stream) → sees at_whole_expression ts ≡ or (sees literal_or_path ts) (or (sees expression_word ts) (sees group_or_sign ts))
unfolding sees
whole_expression_seen ts =
    after_six (sees at_any_literal ts) (sees (at_word w_true) ts) (sees (at_word w_false) ts) (sees at_path_word ts) (sees at_colons ts) (sees at_less ts) _
    ∙ ap (or (sees literal_or_path ts)) (after_eight (sees (at_word w_if) ts) (sees (at_word w_loop) ts) (sees (at_word w_while) ts) (sees (at_word w_for) ts) (sees (at_word w_unsafe) ts) (sees (at_word w_return) ts) (sees (at_word w_break) ts) (sees (at_word w_continue) ts) (sees group_or_sign ts))

abbrev postfix : Look
postfix = at_paren or_else at_bracket or_else at_question or_else at_dot

abbrev comparison : Look
comparison = at_mark equal_equal or_else at_mark not_equals or_else at_less or_else at_greater

first_four : (a b c d r : Bool) → or a (or b (or c (or d r))) ≡ or (or a (or b (or c d))) r
first_four true b c d r = refl
first_four false true c d r = refl
first_four false false true d r = refl
first_four false false false d r = refl

pub unfinished_seen : (ts : Stream) → sees at_unfinished ts ≡ or (sees postfix ts) (sees comparison ts)
unfolding sees
unfinished_seen ts = first_four (sees at_paren ts) (sees at_bracket ts) (sees at_question ts) (sees at_dot ts) (sees comparison ts)
