-- The conditions of the grammar on items, by peeks.
use Rattle.std.proofs.Common.{◌≡◌, Bool, true, false, [], ◌∷◌, refl, sym, ap, ap₂, ◌∙◌, subst, true≢false}
use Rattle.syn_grammar.specs.Words.{Text, bar, w_async, w_auto, w_const, w_default, w_enum, w_extern, w_fn, w_impl, w_macro, w_mod, w_move, w_mut, w_pub, w_self, w_static, w_struct, w_trait, w_type, w_union, w_unsafe, w_use, w_Self_type, colons, exclamation, not_equals, less}
use Rattle.syn_grammar.specs.Tokens.{Stream, end, leaf, punct, group, ident, literal, or, and, no, has_fact, Fact, Begins_item, Not_item, Before_brace, Before_colons, Before_less, Before_macro, Before_own_self, Bang_brace, Brace, asked_by_name, asked_of_path, at_path_rest, Lookahead, facts_for, asked, leaf_terminal, lookahead, answers, is_word, Look, at_name, at_word, at_mark, at_group, ahead, ◌and_also◌, ◌or_else◌, ◌but_not◌}
use Rattle.syn_grammar.specs.Grammar.{at_unnamed}
use Rattle.syn_grammar.specs.Take.{sees, lookahead_at}
use Rattle.syn_grammar.specs.Table.{at_ampersand, at_colons, at_crate_macro, at_item, at_lone_crate, at_no_macro_item, at_own_self, at_receiver}
use Rattle.syn_grammar.proofs.Looks.{sees_or}
use Rattle.syn_parse.specs.Peeks.{past}
use Rattle.syn_recognize.specs.ItemLooks.{at_async_item, at_auto_item, at_const_expression, at_const_item, at_crate_item, at_default_item, at_item_word, at_marked_word, at_named_macro, at_static_item, at_union_item, at_unsafe_item}
use Rattle.syn_recognize.proofs.Facts.{reported_first, word_face, and_same}
use Rattle.syn_recognize.proofs.Restricted.{no_word}
use Rattle.syn_recognize.proofs.ExpressionLooks.{after_six}
use Rattle.syn_recognize.proofs.PathLooks.{no_name, others, passed, self_is_word, known_of_name, known_of_word, word_settles}

-- WHAT THE GRAMMAR STATES OF A WORD by the tokens after it
abbrev settles : Text → Fact → Look → Type 0
settles w n c = (f : Lookahead) → has_fact n (facts_for (asked (leaf_terminal (ident w))) f) ≡ answers c f

module _ (w : Text) (n : Fact) (c : Look) (t : settles w n c) where
  noted : (x : Text) (m : Stream) → is_word w (leaf_terminal (ident x)) ≡ true → has_fact n (facts_for (asked (leaf_terminal (ident x))) (lookahead m)) ≡ answers c (lookahead m)
  noted x m e = subst (λ z. has_fact n (facts_for (asked (leaf_terminal (ident z))) (lookahead m)) ≡ answers c (lookahead m)) (sym (word_face w x e)) (t (lookahead m))

  noted_at : (ts : Stream) → sees (at_word w) ts ≡ true → sees (ahead n) ts ≡ sees c (past ts)
  unfolding sees lookahead_at
  noted_at end h = absurd (true≢false (sym h))
  noted_at (leaf (ident x) sp m) h = noted x m h
  noted_at (leaf (literal k x) sp m) h = absurd (true≢false (sym h))
  noted_at (punct d j sp m) h = absurd (true≢false (sym h ∙ no_word w d j sp m))
  noted_at (group d o k i m) h = absurd (true≢false (sym h))

  -- the word with the fact, and without it
  marked_seen : (ts : Stream) → sees (at_word w and_also ahead n) ts ≡ and (sees (at_word w) ts) (sees c (past ts))
  unfolding sees
  marked_seen ts = and_same (sees (at_word w) ts) _ _ (noted_at ts)

  unmarked_seen : (ts : Stream) → sees (at_word w but_not ahead n) ts ≡ and (sees (at_word w) ts) (no (sees c (past ts)))
  unfolding sees
  unmarked_seen ts = and_same (sees (at_word w) ts) _ _ (λ h. ap no (noted_at ts h))

pub union_seen : (ts : Stream) → sees at_union_item ts ≡ and (sees (at_word w_union) ts) (sees at_name (past ts))
union_seen = marked_seen w_union Begins_item at_name (λ f. reported_first Begins_item at_name ((at_group Brace, Before_brace) ∷ asked_by_name) f refl refl)

pub auto_seen : (ts : Stream) → sees at_auto_item ts ≡ and (sees (at_word w_auto) ts) (sees (at_word w_trait) (past ts))
auto_seen = marked_seen w_auto Begins_item (at_word w_trait) (λ f. reported_first Begins_item (at_word w_trait) asked_by_name f refl refl)

pub default_item_seen : (ts : Stream) → sees at_default_item ts ≡ and (sees (at_word w_default) ts) (or (sees (at_word w_unsafe) (past ts)) (sees (at_word w_impl) (past ts)))
unfolding sees
default_item_seen = marked_seen w_default Begins_item (at_word w_unsafe or_else at_word w_impl) (λ f. reported_first Begins_item (at_word w_unsafe or_else at_word w_impl) asked_by_name f refl refl)

pub static_item_seen : (ts : Stream) → sees at_static_item ts ≡ and (sees (at_word w_static) ts) (or (sees (at_word w_mut) (past ts)) (sees at_name (past ts)))
unfolding sees
static_item_seen = marked_seen w_static Begins_item (at_word w_mut or_else at_name) (λ f. reported_first Begins_item (at_word w_mut or_else at_name) [] f refl refl)

abbrev after_async : Look
after_async = at_word w_unsafe or_else at_word w_extern or_else at_word w_fn

pub async_item_seen : (ts : Stream) → sees at_async_item ts ≡ and (sees (at_word w_async) ts) (or (sees (at_word w_unsafe) (past ts)) (or (sees (at_word w_extern) (past ts)) (sees (at_word w_fn) (past ts))))
unfolding sees
async_item_seen = marked_seen w_async Begins_item after_async (λ f. reported_first Begins_item after_async [] f refl refl)

pub const_item_seen : (ts : Stream) → sees at_const_item ts ≡ and (sees (at_word w_const) ts) (no (sees at_const_expression (past ts)))
const_item_seen = unmarked_seen w_const Not_item at_const_expression (λ f. reported_first Not_item at_const_expression [] f refl refl)

pub unsafe_item_seen : (ts : Stream) → sees at_unsafe_item ts ≡ and (sees (at_word w_unsafe) ts) (no (sees (at_group Brace) (past ts)))
unsafe_item_seen = unmarked_seen w_unsafe Not_item (at_group Brace) (λ f. reported_first Not_item (at_group Brace) [] f refl refl)

-- `async` without an item after it, after `const`
pub const_expression_seen : (ts : Stream) → sees at_const_expression ts ≡ or (sees (at_group Brace) ts) (or (sees (at_word w_static) ts) (or (sees (at_word w_move) ts) (or (sees (at_mark bar) ts) (and (sees (at_word w_async) ts) (no (sees at_async_item ts))))))
unfolding sees
const_expression_seen ts = ap (λ b. or (sees (at_group Brace) ts) (or (sees (at_word w_static) ts) (or (sees (at_word w_move) ts) (or (sees (at_mark bar) ts) b)))) (without (sees (at_word w_async) ts) (sees (ahead Begins_item) ts))
  where
    without : (a b : Bool) → and a (no b) ≡ and a (no (and a b))
    without true b = refl
    without false b = refl

default_seen : (ts : Stream) → sees (at_word w_default and_also ahead Before_colons) ts ≡ and (sees (at_word w_default) ts) (sees (at_mark colons) (past ts))
default_seen = marked_seen w_default Before_colons (at_mark colons) (λ f. known_of_word Before_colons refl refl refl refl refl refl refl f w_default refl ∙ reported_first Before_colons (at_mark colons) ((at_mark exclamation but_not at_mark not_equals or_else at_mark colons and_also ahead Before_macro, Before_macro) ∷ asked_of_path at_path_rest) f refl refl)

pub no_macro_item_seen : (ts : Stream) → sees at_no_macro_item ts ≡ or (sees (at_word w_Self_type) ts) (and (sees (at_word w_default) ts) (sees (at_mark colons) (past ts)))
no_macro_item_seen ts = sees_or (at_word w_Self_type) (at_word w_default and_also ahead Before_colons) ts ∙ ap (or (sees (at_word w_Self_type) ts)) (default_seen ts)

-- RECEIVERS
pub own_self_seen : (ts : Stream) → sees at_own_self ts ≡ and (sees (at_word w_self) ts) (no (sees at_colons (past ts)))
unfolding sees
own_self_seen ts = and_same (sees (at_word w_self) ts) _ _ (λ h. ap no (word_settles ts (self_is_word ts h)).2)

mut_seen : (ts : Stream) → sees (at_word w_mut and_also ahead Before_own_self) ts ≡ and (sees (at_word w_mut) ts) (sees at_own_self (past ts))
mut_seen = marked_seen w_mut Before_own_self at_own_self (λ f. reported_first Before_own_self at_own_self [] f refl refl)

pub receiver_seen : (ts : Stream) → sees at_receiver ts ≡ or (sees at_ampersand ts) (or (and (sees (at_word w_mut) ts) (sees at_own_self (past ts))) (sees at_own_self ts))
unfolding sees
receiver_seen ts = ap (λ b. or (sees at_ampersand ts) (or b (sees at_own_self ts))) (mut_seen ts)

-- a name before `<`, which is no name of a parameter
pub unnamed_seen : (ts : Stream) → sees (at_unnamed Before_less) ts ≡ and (sees at_name ts) (sees (at_mark less) (past ts))
unfolding sees lookahead_at
unnamed_seen end = refl
unnamed_seen (leaf (ident x) sp m) = and_same (sees at_name (leaf (ident x) sp m)) _ _ (λ h. known_of_name Before_less refl refl (lookahead m) x h ∙ less_known (lookahead m))
  where
    less_known : (f : Lookahead) → has_fact Before_less (facts_for asked_by_name f) ≡ answers (at_mark less) f
    less_known f = passed Before_less asked_by_name f refl ∙ passed Before_less (others asked_by_name) f refl ∙ reported_first Before_less (at_mark less) (others (others (others asked_by_name))) f refl refl
unnamed_seen (leaf (literal k x) sp m) = refl
unnamed_seen (punct c j sp m) = and_same (sees at_name (punct c j sp m)) _ _ (λ h. absurd (true≢false (sym h ∙ no_name c j sp m)))
unnamed_seen (group d o c i m) = refl

-- ITEMS
pub crate_item_seen : (ts : Stream) → sees at_crate_item ts ≡ and (sees at_lone_crate ts) (no (sees at_crate_macro ts))
unfolding sees
crate_item_seen ts = without (sees at_lone_crate ts) (sees (ahead Bang_brace) ts)
  where
    without : (a b : Bool) → and a (no b) ≡ and a (no (and a b))
    without true b = refl
    without false b = refl

or_true : (a : Bool) → or a true ≡ true
or_true true = refl
or_true false = refl

-- one fact of several words
of_two : (a b n : Bool) → and (or a b) n ≡ or (and a n) (and b n)
of_two true true true = refl
of_two true true false = refl
of_two true false true = refl
of_two true false false = refl
of_two false b n = refl

of_five : (a b c d e n : Bool) → and (or a (or b (or c (or d e)))) n ≡ or (and a n) (or (and b n) (or (and c n) (or (and d n) (and e n))))
of_five a b c d e n =
    of_two a _ n ∙ ap (or (and a n)) (of_two b _ n ∙ ap (or (and b n)) (of_two c _ n ∙ ap (or (and c n)) (of_two d e n)))

-- a row of eleven, and the others
after_eleven : (a b c d e f g h i j k x : Bool) → or a (or b (or c (or d (or e (or f (or g (or h (or i (or j (or k x)))))))))) ≡ or (or (or a (or b (or c (or d e)))) (or f (or g (or h (or i (or j k)))))) x
after_eleven true b c d e f g h i j k x = refl
after_eleven false true c d e f g h i j k x = refl
after_eleven false false true d e f g h i j k x = refl
after_eleven false false false true e f g h i j k x = refl
after_eleven false false false false true f g h i j k x = refl
after_eleven false false false false false f g h i j k x = after_six f g h i j k x

in_order : (c a b m n : Bool) → or c (or (or a b) (or m n)) ≡ or (or a (or b m)) (or c n)
in_order true a b m n = sym (or_true (or a (or b m)))
in_order false true b m n = refl
in_order false false true m n = refl
in_order false false false m n = refl

pub item_seen : (ts : Stream) → sees at_item ts ≡ or (sees at_item_word ts) (or (sees at_marked_word ts) (or (sees at_crate_item ts) (sees at_named_macro ts)))
unfolding sees
item_seen ts =
    after_eleven (sees (at_word w_pub) ts) (sees (at_word w_extern) ts) (sees (at_word w_use) ts) (sees (at_word w_fn) ts) (sees (at_word w_mod) ts) (sees (at_word w_type) ts) (sees (at_word w_struct) ts) (sees (at_word w_enum) ts) (sees (at_word w_trait) ts) (sees (at_word w_impl) ts) (sees (at_word w_macro) ts) _
    ∙ ap (or (sees at_item_word ts))
    (ap₂ (λ a b. or (sees at_crate_item ts) (or a (or b (sees at_named_macro ts))))
    (of_two (sees (at_word w_const) ts) (sees (at_word w_unsafe) ts) (no (sees (ahead Not_item) ts)))
    (of_five (sees (at_word w_static) ts) (sees (at_word w_async) ts) (sees (at_word w_union) ts) (sees (at_word w_auto) ts) (sees (at_word w_default) ts) (sees (ahead Begins_item) ts))
    ∙ in_order (sees at_crate_item ts) (sees at_const_item ts) (sees at_unsafe_item ts) _ (sees at_named_macro ts))

-- where nothing else begins one
pub item_by_macro : (ts : Stream) → sees at_item_word ts ≡ false → sees at_marked_word ts ≡ false → sees at_crate_item ts ≡ false → sees at_item ts ≡ sees at_named_macro ts
item_by_macro ts h k l = item_seen ts ∙ ap (λ b. or b (or (sees at_marked_word ts) (or (sees at_crate_item ts) (sees at_named_macro ts)))) h ∙ ap (λ b. or b (or (sees at_crate_item ts) (sees at_named_macro ts))) k ∙ ap (λ b. or b (sees at_named_macro ts)) l
