-- A plan reads what a union does: the alternatives are followed side by side, each as far as the plan has read.
use Rattle.std.proofs.Common.{◌≡◌, ℕ, zero, suc, Bool, true, false, List, [], ◌∷◌, ◌++◌, Option, Some, None, refl, sym, ap, ap₂, ◌∙◌, subst, true≢false, ◌⊎◌, inl, inr}
use Rattle.syn_grammar.specs.Tokens.{Delimiter, Span, Leaf, Stream, leaf, group, and, or, no, pick, Fact, same_text, lookahead, Look, answers}
use Rattle.syn_grammar.specs.Rules.{Rule}
use Rattle.syn_grammar.specs.RuleNumbers.{same_rule}
use Rattle.syn_grammar.specs.Shape.{Shape}
use Rattle.syn_grammar.specs.Grammar.{Kind, fits, Test, trailing_brace, no_trailing_brace, has, has_no, holds, has_part, ends_brace, Grammar, empty, token, mark, lifetime, ◌&◌, when◌then◌else◌, vanishing, inside, raw, rest_after, either, one_of, rule, such, captured, unshown, supplied, row, ordered, Unshown, Syntax, Nothing, Both, Left, Right, Node, Vanishing, Case, Such, shaped, Impl, generics_before, opt_generics}
use Rattle.syn_grammar.specs.Table.{table}
use Rattle.syn_grammar.specs.Values.{shape}
use Rattle.syn_grammar.specs.Take.{Out, Parser, only, lookahead_at, sees, take_token, take_mark, Opened, take_group}
use Rattle.syn_grammar.specs.Run.{wrap, and_then, branch, vanish, close, within, such_as, caught, named, and_impl, parse_form}
use Rattle.syn_grammar.specs.Plan.{Plan, reads, turns, tests, keeps, ends, done, fails, follow, by_test, kept_as, run_plan}
use Rattle.syn_grammar.proofs.Sets.{or_split, and_left, and_right, same_text_eq, same_look, same_look_eq}
use Rattle.syn_grammar.proofs.FormEquality.{same, same_eq, same_choice, same_choice_eq, same_test, same_test_eq}
use Rattle.syn_grammar.proofs.RuleLemmas.{same_rule_eq}
use Rattle.syn_grammar.proofs.Takes.{token_known, group_taken, sees_answers}
use Rattle.syn_grammar.proofs.Run.{parse_rule_is}
use Rattle.syn_grammar.proofs.Begins.{only_at, never_at, not_there, not_here}
use Rattle.syn_grammar.proofs.Known.{Holds, Known, after_token, after_token_is, clash, clash_is, inside_group, inside_group_is, not_false, not_true, noted, noted_is, some_is}

-- ---- A SEQUENCE OF FORMS, where only the rest matters

abbrev pub rest : Out → Option Stream
rest (Some p) = Some p.1
rest None = None

abbrev pub onward : Option Stream → (Stream → Option Stream) → Option Stream
onward (Some r) f = f r
onward None f = None

abbrev pub recog : List Grammar → Stream → Option Stream
recog [] m = Some m
recog (g ∷ l) m = onward (rest (parse_form g m)) (recog l)

abbrev pub At : Known → Stream → Type 0
At l m = Holds l (lookahead_at m)

-- a form reads nothing here, since it begins otherwise
abbrev pub bars : Look → Bool → Grammar → Bool
bars c true g = never_at c g
bars c false g = only_at c g

abbrev pub barred : Known → Grammar → Bool
barred [] g = false
barred (p ∷ l) g = or (bars p.0 p.1 g) (barred l g)

pub bars_is : (c : Look) (v : Bool) (g : Grammar) (m : Stream) → bars c v g ≡ true → answers c (lookahead_at m) ≡ v → parse_form g m ≡ None
bars_is c true g m e h = not_here c g e m (sees_answers c m ∙ h)
bars_is c false g m e h = not_there c g e m (sees_answers c m ∙ h)

pub barred_is : (l : Known) (g : Grammar) (m : Stream) → barred l g ≡ true → At l m → parse_form g m ≡ None
barred_is [] g m e h = absurd (true≢false (sym e))
barred_is (p ∷ l) g m e h = go (or_split (bars p.0 p.1 g) (barred l g) e) (λ q. barred_is l g m q h.1)
  where
    go : (bars p.0 p.1 g ≡ true) ⊎ (barred l g ≡ true) → (barred l g ≡ true → parse_form g m ≡ None) → parse_form g m ≡ None
    go (inl q) u = bars_is p.0 p.1 g m q h.0
    go (inr q) u = u q

pub some_known : Known → Bool
some_known [] = false
some_known (p ∷ l) = true

-- nothing is read by these forms
abbrev pub gone : ℕ → Known → List Grammar → Bool
gone zero l fs = false
gone (suc n) l [] = false
gone (suc n) l ((g & h) ∷ fs) = let r = gone n l (g ∷ h ∷ fs) in or (barred l (g & h)) r
gone (suc n) l (rule k ∷ fs) = let r = gone n l (table k ∷ fs) in or (barred l (rule k)) r
gone (suc n) l ((when c then x else y) ∷ fs) =
    let a = gone n (noted c true l) (x ∷ fs) in
    let b = gone n (noted c false l) (y ∷ fs) in
    and (or (clash c true l) a) (or (clash c false l) b)
gone (suc n) l (vanishing v c x ∷ fs) =
    let a = gone n (noted c true l) (x ∷ fs) in
    let b = gone n (noted c false l) fs in
    and (or (clash c true l) a) (or (clash c false l) b)
gone (suc n) l (empty ∷ fs) = gone n l fs
gone (suc n) l (unshown ∷ fs) = gone n l fs
gone (suc n) l (shaped j x ∷ fs) = gone n l (x ∷ fs)
gone (suc n) l (such q x ∷ fs) = gone n l (x ∷ fs)
gone (suc n) l (captured x ∷ fs) = gone n l (x ∷ fs)
gone (suc n) l (generics_before x y h ∷ fs) = gone n l (opt_generics x y ∷ h ∷ fs)
gone (suc n) l (token b k ∷ fs) = let r = gone n (after_token k l) fs in or (barred l (token b k)) r
gone (suc n) l (one_of (k ∷ []) ∷ fs) = gone n l (table k ∷ fs)
gone (suc n) l (inside d x ∷ fs) = let r = gone n (inside_group d l) (x ∷ []) in or (barred l (inside d x)) r
gone (suc n) l (g ∷ fs) = barred l g

pub no_rest : (o : Out) (f : Stream → Option Stream) → o ≡ None → onward (rest o) f ≡ None
no_rest o f e = ap (λ z. onward (rest z) f) e

pub rest_wrap : (f : Syntax → Syntax) (o : Out) → rest (wrap f o) ≡ rest o
rest_wrap f (Some p) = refl
rest_wrap f None = refl

pub rest_then : (o : Out) (q : Parser) → rest (and_then o q) ≡ onward (rest o) (λ r. rest (q r))
rest_then (Some p) q = rest_wrap (Both p.0) (q p.1)
rest_then None q = refl

pub onward_onward : (o : Option Stream) (f g : Stream → Option Stream) → onward (onward o f) g ≡ onward o (λ r. onward (f r) g)
onward_onward (Some r) f g = refl
onward_onward None f g = refl

pub recog_then : (g h : Grammar) (fs : List Grammar) (m : Stream) → recog ((g & h) ∷ fs) m ≡ recog (g ∷ h ∷ fs) m
recog_then g h fs m = ap (λ z. onward z (recog fs)) (rest_then (parse_form g m) (parse_form h)) ∙ onward_onward (rest (parse_form g m)) (λ r. rest (parse_form h r)) (recog fs)

pub recog_rule : (k : Rule) (fs : List Grammar) (m : Stream) → recog (rule k ∷ fs) m ≡ recog (table k ∷ fs) m
recog_rule k fs m = ap (λ z. onward z (recog fs)) (ap rest (parse_rule_is k m) ∙ rest_wrap Node (parse_form (table k) m))

pub rest_branch : (v : Bool) (c : Look) (x y : Grammar) (m : Stream) → sees c m ≡ v → rest (parse_form (when c then x else y) m) ≡ pick v (rest (parse_form x m)) (rest (parse_form y m))
rest_branch true c x y m e = ap (λ z. rest (branch z (parse_form x m) (parse_form y m))) e ∙ rest_wrap Left (parse_form x m)
rest_branch false c x y m e = ap (λ z. rest (branch z (parse_form x m) (parse_form y m))) e ∙ rest_wrap Right (parse_form y m)

pub rest_vanish : (b : Bool) (o : Out) → rest (vanish b o) ≡ rest o
rest_vanish b (Some p) = refl
rest_vanish b None = refl

pub rest_such : (q : Test) (o : Out) → (rest (such_as q o) ≡ rest o) ⊎ (such_as q o ≡ None)
rest_such q (Some p) = go (holds q p.0)
  where
    go : (v : Bool) → (rest (only {A = Syntax × Stream} v (Some (Such p.0, p.1))) ≡ Some p.1) ⊎ (only {A = Syntax × Stream} v (Some (Such p.0, p.1)) ≡ None)
    go true = inl refl
    go false = inr refl
rest_such q None = inl refl

pub rest_caught : (ts : Stream) (o : Out) → rest (caught ts o) ≡ rest o
rest_caught ts (Some p) = refl
rest_caught ts None = refl

pub rest_impl : (o : Out) (q : Parser) → rest (and_impl o q) ≡ onward (rest o) (λ r. rest (q r))
rest_impl (Some p) q = rest_wrap (Impl p.0) (q p.1)
rest_impl None q = refl

pub at_token : (k : Kind) (l : Known) (y : Leaf) (sp : Span) (m r : Stream) → m ≡ leaf y sp r → fits k y ≡ true → At l m → At (after_token k l) r
unfolding lookahead_at
at_token k l y sp m r e q h = after_token_is k l y sp r q (subst (λ z. Holds l (lookahead z)) e h)

pub at_noted : (c : Look) (v : Bool) (l : Known) (m : Stream) → At l m → sees c m ≡ v → At (noted c v l) m
at_noted c v l m h e = noted_is c v l (lookahead_at m) h (sym (sees_answers c m) ∙ e)

pub at_clash : (c : Look) (v : Bool) (l : Known) (m : Stream) → clash c v l ≡ true → At l m → sees c m ≡ v → ⊥
at_clash c v l m q h e = clash_is c v l (lookahead_at m) q h (sym (sees_answers c m) ∙ e)

-- by whether the look holds
pub turned : (c : Look) (l : Known) (m : Stream) (a b : Bool) (R : Bool → Type 0) → and (or (clash c true l) a) (or (clash c false l) b) ≡ true → At l m →
    (a ≡ true → At (noted c true l) m → R true) → (b ≡ true → At (noted c false l) m → R false) → R (sees c m)
turned c l m a b R e h f g = go (sees c m) refl
  where
    go : (v : Bool) → sees c m ≡ v → R v
    go true q = which (or_split (clash c true l) a (and_left (or (clash c true l) a) _ e))
      where
        which : (clash c true l ≡ true) ⊎ (a ≡ true) → R true
        which (inl x) = absurd (at_clash c true l m x h q)
        which (inr x) = f x (at_noted c true l m h q)
    go false q = which (or_split (clash c false l) b (and_right (or (clash c true l) a) _ e))
      where
        which : (clash c false l ≡ true) ⊎ (b ≡ true) → R false
        which (inl x) = absurd (at_clash c false l m x h q)
        which (inr x) = g x (at_noted c false l m h q)

pub bar_or : (l : Known) (g : Grammar) (fs : List Grammar) (m : Stream) (a : Bool) → or (barred l g) a ≡ true → At l m → (a ≡ true → recog (g ∷ fs) m ≡ None) → recog (g ∷ fs) m ≡ None
bar_or l g fs m a e h f = go (or_split (barred l g) a e)
  where
    go : (barred l g ≡ true) ⊎ (a ≡ true) → recog (g ∷ fs) m ≡ None
    go (inl q) = no_rest (parse_form g m) (recog fs) (barred_is l g m q h)
    go (inr q) = f q

pub gone_token : (b : List Fact) (k : Kind) (l : Known) (fs : List Grammar) (m : Stream) → At l m → ((r : Stream) → At (after_token k l) r → recog fs r ≡ None) → recog (token b k ∷ fs) m ≡ None
gone_token b k l fs m h f = go (take_token k m) refl
  where
    go : (o : Out) → take_token k m ≡ o → onward (rest o) (recog fs) ≡ None
    go None e = refl
    go (Some p) e = let t = token_known k m p e in f p.1 (at_token k l t.0 t.1 m p.1 t.4 t.3 h)

pub named_one : (k : Rule) (o : Out) → named k (wrap Node o) None ≡ wrap (Case k) o
named_one k (Some x) = refl
named_one k None = refl

pub at_group_content : (d : Delimiter) (l : Known) (o c : Span) (i r m : Stream) → m ≡ group d o c i r → At l m → At (inside_group d l) i
unfolding lookahead_at
at_group_content d l o c i r m e h = inside_group_is d l (lookahead (group d o c i r)) (lookahead i) refl (subst (λ z. Holds l (lookahead z)) e h)

pub group_gone : (d : Delimiter) (x : Grammar) (l : Known) (m : Stream) → At l m → ((i : Stream) → At (inside_group d l) i → recog (x ∷ []) i ≡ None) → parse_form (inside d x) m ≡ None
group_gone d x l m h f = go (take_group d m) refl
  where
    content : (i : Stream) → onward (rest (parse_form x i)) (recog []) ≡ None → parse_form x i ≡ None
    content i e = which (parse_form x i) e
      where
        which : (o : Out) → onward (rest o) (recog []) ≡ None → o ≡ None
        which None e = refl
        which (Some p) e = absurd (cc e)

    go : (o : Option Opened) → take_group d m ≡ o → within d o (parse_form x) ≡ None
    go None e = refl
    go (Some g) e = ap (close d g) (content g.content (f g.content (at_group_content d l g.opening g.closing g.content g.rest m (group_taken d m g e) h)))

pub gone_is : (n : ℕ) (l : Known) (fs : List Grammar) (m : Stream) → gone n l fs ≡ true → At l m → recog fs m ≡ None
gone_is zero l fs m e h = absurd (true≢false (sym e))
gone_is (suc n) l [] m e h = absurd (true≢false (sym e))
gone_is (suc n) l ((g & h) ∷ fs) m e w = bar_or l (g & h) fs m _ e w (λ q. recog_then g h fs m ∙ gone_is n l (g ∷ h ∷ fs) m q w)
gone_is (suc n) l (rule k ∷ fs) m e w = bar_or l (rule k) fs m _ e w (λ q. recog_rule k fs m ∙ gone_is n l (table k ∷ fs) m q w)
gone_is (suc n) l ((when c then x else y) ∷ fs) m e w =
    ap (λ z. onward z (recog fs)) (rest_branch (sees c m) c x y m refl)
    ∙ turned c l m _ _ (λ v. onward (pick v (rest (parse_form x m)) (rest (parse_form y m))) (recog fs) ≡ None) e w (λ q u. gone_is n (noted c true l) (x ∷ fs) m q u) (λ q u. gone_is n (noted c false l) (y ∷ fs) m q u)
gone_is (suc n) l (vanishing v c x ∷ fs) m e w =
    ap (λ z. onward z (recog fs)) (rest_vanish v (parse_form (when c then x else empty) m) ∙ rest_branch (sees c m) c x empty m refl)
    ∙ turned c l m _ _ (λ v. onward (pick v (rest (parse_form x m)) (Some m)) (recog fs) ≡ None) e w (λ q u. gone_is n (noted c true l) (x ∷ fs) m q u) (λ q u. gone_is n (noted c false l) fs m q u)
gone_is (suc n) l (empty ∷ fs) m e w = gone_is n l fs m e w
gone_is (suc n) l (unshown ∷ fs) m e w = gone_is n l fs m e w
gone_is (suc n) l (shaped j x ∷ fs) m e w = ap (λ z. onward z (recog fs)) (rest_wrap (shape j) (parse_form x m)) ∙ gone_is n l (x ∷ fs) m e w
gone_is (suc n) l (such q x ∷ fs) m e w = go (rest_such q (parse_form x m)) (gone_is n l (x ∷ fs) m e w)
  where
    go : (rest (such_as q (parse_form x m)) ≡ rest (parse_form x m)) ⊎ (such_as q (parse_form x m) ≡ None) → onward (rest (parse_form x m)) (recog fs) ≡ None → onward (rest (such_as q (parse_form x m))) (recog fs) ≡ None
    go (inl a) i = ap (λ z. onward z (recog fs)) a ∙ i
    go (inr a) i = no_rest (such_as q (parse_form x m)) (recog fs) a
gone_is (suc n) l (captured x ∷ fs) m e w = ap (λ z. onward z (recog fs)) (rest_caught m (parse_form x m)) ∙ gone_is n l (x ∷ fs) m e w
gone_is (suc n) l (generics_before x y h ∷ fs) m e w =
    ap (λ z. onward z (recog fs)) (rest_impl (parse_form (opt_generics x y) m) (parse_form h)) ∙ onward_onward (rest (parse_form (opt_generics x y) m)) (λ r. rest (parse_form h r)) (recog fs)
    ∙ gone_is n l (opt_generics x y ∷ h ∷ fs) m e w
gone_is (suc n) l (token b k ∷ fs) m e w = bar_or l (token b k) fs m _ e w (λ q. gone_token b k l fs m w (λ r u. gone_is n (after_token k l) fs r q u))
gone_is (suc n) l (mark v x ∷ fs) m e w = no_rest (parse_form (mark v x) m) (recog fs) (barred_is l (mark v x) m e w)
gone_is (suc n) l (lifetime ∷ fs) m e w = no_rest (parse_form lifetime m) (recog fs) (barred_is l lifetime m e w)
gone_is (suc n) l (inside d x ∷ fs) m e w = bar_or l (inside d x) fs m _ e w (λ q. no_rest (parse_form (inside d x) m) (recog fs) (group_gone d x l m w (λ i u. gone_is n (inside_group d l) (x ∷ []) i q u)))
gone_is (suc n) l (raw d ∷ fs) m e w = no_rest (parse_form (raw d) m) (recog fs) (barred_is l (raw d) m e w)
gone_is (suc n) l (rest_after x ∷ fs) m e w = no_rest (parse_form (rest_after x) m) (recog fs) (barred_is l (rest_after x) m e w)
gone_is (suc n) l (either x y ∷ fs) m e w = no_rest (parse_form (either x y) m) (recog fs) (barred_is l (either x y) m e w)
gone_is (suc n) l (one_of [] ∷ fs) m e w = no_rest (parse_form (one_of []) m) (recog fs) (barred_is l (one_of []) m e w)
gone_is (suc n) l (one_of (k ∷ []) ∷ fs) m e w =
    ap (λ z. onward (rest z) (recog fs)) (ap (λ z. named k z None) (parse_rule_is k m) ∙ named_one k (parse_form (table k) m)) ∙ ap (λ z. onward z (recog fs)) (rest_wrap (Case k) (parse_form (table k) m))
    ∙ gone_is n l (table k ∷ fs) m e w
gone_is (suc n) l (one_of (k ∷ j ∷ ks) ∷ fs) m e w = no_rest (parse_form (one_of (k ∷ j ∷ ks)) m) (recog fs) (barred_is l (one_of (k ∷ j ∷ ks)) m e w)
gone_is (suc n) l (supplied f x y ∷ fs) m e w = no_rest (parse_form (supplied f x y) m) (recog fs) (barred_is l (supplied f x y) m e w)
gone_is (suc n) l (row x y ∷ fs) m e w = no_rest (parse_form (row x y) m) (recog fs) (barred_is l (row x y) m e w)
gone_is (suc n) l (ordered x y ∷ fs) m e w = no_rest (parse_form (ordered x y) m) (recog fs) (barred_is l (ordered x y) m e w)

-- ---- A PARTLY READ ALTERNATIVE: the form that is read now, and the value that is made of it

pub data Frame : Type 0 where
  and_next : Grammar → Frame  -- then this form
  beside : Syntax → Frame  -- the second part of a sequence, of which this is the first
  in_left in_right in_node : Frame
  in_case : Rule → Frame
  in_shape : Shape → Frame
  in_vanishing : Bool → Frame
  in_such : Test → Frame
  and_after : Grammar → Frame  -- then this form, after generics
  with_generics : Syntax → Frame  -- what follows these generics

abbrev pub apply : Frame → Out → Out
apply (and_next h) o = and_then o (parse_form h)
apply (beside s) o = wrap (Both s) o
apply in_left o = wrap Left o
apply in_right o = wrap Right o
apply in_node o = wrap Node o
apply (in_case k) o = wrap (Case k) o
apply (in_shape j) o = wrap (shape j) o
apply (in_vanishing b) o = vanish b o
apply (in_such q) o = such_as q o
apply (and_after h) o = and_impl o (parse_form h)
apply (with_generics s) o = wrap (Impl s) o

abbrev pub resume : List Frame → Out → Out
resume [] o = o
resume (f ∷ k) o = resume k (apply f o)

pub apply_none : (f : Frame) → apply f None ≡ None
apply_none (and_next h) = refl
apply_none (beside s) = refl
apply_none in_left = refl
apply_none in_right = refl
apply_none in_node = refl
apply_none (in_case k) = refl
apply_none (in_shape j) = refl
apply_none (in_vanishing b) = refl
apply_none (in_such q) = refl
apply_none (and_after h) = refl
apply_none (with_generics s) = refl

pub resume_none : (k : List Frame) → resume k None ≡ None
resume_none [] = refl
resume_none (f ∷ k) = ap (resume k) (apply_none f) ∙ resume_none k

pub data State : Type 0 where
  reading : Grammar → List Frame → State
  holding : Syntax → List Frame → State

abbrev pub out : State → Stream → Out
out (reading g k) m = resume k (parse_form g m)
out (holding s k) m = resume k (Some (s, m))

-- a form was read, with this value
abbrev pub back : List Frame → Syntax → State
back [] s = holding s []
back (and_next h ∷ k) s = reading h (beside s ∷ k)
back (beside t ∷ k) s = back k (Both t s)
back (in_left ∷ k) s = back k (Left s)
back (in_right ∷ k) s = back k (Right s)
back (in_node ∷ k) s = back k (Node s)
back (in_case l ∷ k) s = back k (Case l s)
back (in_shape j ∷ k) s = back k (shape j s)
back (in_vanishing b ∷ k) s = back k (Vanishing b (pick b (Right Nothing) s))
back (in_such q ∷ k) s = holding s (in_such q ∷ k)
back (and_after h ∷ k) s = reading h (with_generics s ∷ k)
back (with_generics t ∷ k) s = back k (Impl t s)

pub back_is : (k : List Frame) (s : Syntax) (m : Stream) → out (back k s) m ≡ resume k (Some (s, m))
back_is [] s m = refl
back_is (and_next h ∷ k) s m = refl
back_is (beside t ∷ k) s m = back_is k (Both t s) m
back_is (in_left ∷ k) s m = back_is k (Left s) m
back_is (in_right ∷ k) s m = back_is k (Right s) m
back_is (in_node ∷ k) s m = back_is k (Node s) m
back_is (in_case l ∷ k) s m = back_is k (Case l s) m
back_is (in_shape j ∷ k) s m = back_is k (shape j s) m
back_is (in_vanishing b ∷ k) s m = back_is k (Vanishing b (pick b (Right Nothing) s)) m
back_is (in_such q ∷ k) s m = refl
back_is (and_after h ∷ k) s m = refl
back_is (with_generics t ∷ k) s m = back_is k (Impl t s) m

-- Nothing that was read is lost on the way back (true: no token of it is shown): a part that is never printed holds only values that
-- show no tokens.
abbrev pub calm : Bool → List Frame → Bool
calm q [] = true
calm q (and_next h ∷ k) = true
calm q (and_after h ∷ k) = true
calm q (in_such t ∷ k) = true
calm q (beside t ∷ k) = calm false k
calm q (with_generics t ∷ k) = calm false k
calm q (in_vanishing true ∷ k) = and q (calm true k)
calm q (f ∷ k) = calm q k

-- the known facts decide a choice
abbrev pub chosen : Bool → Bool → State → State → Option State
chosen true b p q = Some p
chosen false true p q = Some q
chosen false false p q = None

-- one step into a form
abbrev pub step : Known → Grammar → List Frame → Option State
step l (g & h) k = Some (reading g (and_next h ∷ k))
step l (rule r) k = Some (reading (table r) (in_node ∷ k))
step l (when c then x else y) k = chosen (clash c false l) (clash c true l) (reading x (in_left ∷ k)) (reading y (in_right ∷ k))
step l (vanishing b c x) k = Some (reading (when c then x else empty) (in_vanishing b ∷ k))
step l empty k = only (calm true k) (Some (back k Nothing))
step l unshown k = only (calm true k) (Some (back k (Unshown Nothing)))
step l (shaped j x) k = Some (reading x (in_shape j ∷ k))
step l (such q x) k = Some (reading x (in_such q ∷ k))
step l (generics_before x y h) k = Some (reading (opt_generics x y) (and_after h ∷ k))
step l (one_of (r ∷ [])) k = Some (reading (table r) (in_case r ∷ k))
step l g k = None

pub branch_is : (v : Bool) (c : Look) (x y : Grammar) (m : Stream) → sees c m ≡ v → parse_form (when c then x else y) m ≡ branch v (parse_form x m) (parse_form y m)
branch_is v c x y m e = ap (λ z. branch z (parse_form x m) (parse_form y m)) e

pub state_is : (a b : State) → Some a ≡ Some b → a ≡ b
state_is a b e = cc e

pub only_is : {A : Type 0} (b : Bool) (x y : A) → only b (Some x) ≡ Some y → (b ≡ true) × (Some x ≡ Some y)
only_is true x y e = (refl, e)
only_is false x y e = absurd (cc e)

pub step_is : (l : Known) (g : Grammar) (k : List Frame) (t : State) (m : Stream) → step l g k ≡ Some t → At l m → resume k (parse_form g m) ≡ out t m
step_is l (g & h) k t m e w = ap (λ z. out z m) (state_is (reading g (and_next h ∷ k)) t e)
step_is l (rule r) k t m e w = ap (resume k) (parse_rule_is r m) ∙ ap (λ z. out z m) (state_is (reading (table r) (in_node ∷ k)) t e)
step_is l (when c then x else y) k t m e w = go (clash c false l) (clash c true l) refl refl e
  where
    go : (a b : Bool) → clash c false l ≡ a → clash c true l ≡ b → chosen a b (reading x (in_left ∷ k)) (reading y (in_right ∷ k)) ≡ Some t → resume k (parse_form (when c then x else y) m) ≡ out t m
    go true b p q i = ap (resume k) (branch_is true c x y m (not_false (sees c m) (at_clash c false l m p w))) ∙ ap (λ z. out z m) (state_is (reading x (in_left ∷ k)) t i)
    go false true p q i = ap (resume k) (branch_is false c x y m (not_true (sees c m) (at_clash c true l m q w))) ∙ ap (λ z. out z m) (state_is (reading y (in_right ∷ k)) t i)
    go false false p q i = absurd (cc i)
step_is l (vanishing b c x) k t m e w = ap (λ z. out z m) (state_is (reading (when c then x else empty) (in_vanishing b ∷ k)) t e)
step_is l empty k t m e w = sym (back_is k Nothing m) ∙ ap (λ z. out z m) (state_is (back k Nothing) t (only_is (calm true k) (back k Nothing) t e).1)
step_is l unshown k t m e w = sym (back_is k (Unshown Nothing) m) ∙ ap (λ z. out z m) (state_is (back k (Unshown Nothing)) t (only_is (calm true k) (back k (Unshown Nothing)) t e).1)
step_is l (shaped j x) k t m e w = ap (λ z. out z m) (state_is (reading x (in_shape j ∷ k)) t e)
step_is l (such q x) k t m e w = ap (λ z. out z m) (state_is (reading x (in_such q ∷ k)) t e)
step_is l (generics_before x y h) k t m e w = ap (λ z. out z m) (state_is (reading (opt_generics x y) (and_after h ∷ k)) t e)
step_is l (token b x) k t m e w = absurd (cc e)
step_is l (mark b x) k t m e w = absurd (cc e)
step_is l lifetime k t m e w = absurd (cc e)
step_is l (inside d x) k t m e w = absurd (cc e)
step_is l (raw d) k t m e w = absurd (cc e)
step_is l (rest_after x) k t m e w = absurd (cc e)
step_is l (either x y) k t m e w = absurd (cc e)
step_is l (one_of []) k t m e w = absurd (cc e)
step_is l (one_of (r ∷ [])) k t m e w = ap (resume k) (ap (λ z. named r z None) (parse_rule_is r m) ∙ named_one r (parse_form (table r) m)) ∙ ap (λ z. out z m) (state_is (reading (table r) (in_case r ∷ k)) t e)
step_is l (one_of (r ∷ q ∷ x)) k t m e w = absurd (cc e)
step_is l (captured x) k t m e w = absurd (cc e)
step_is l (supplied n x y) k t m e w = absurd (cc e)
step_is l (row x y) k t m e w = absurd (cc e)
step_is l (ordered x y) k t m e w = absurd (cc e)

abbrev pub bound : {A B : Type 0} → Option A → (A → Option B) → Option B
bound (Some a) f = f a
bound None f = None

abbrev pub picked : {A : Type 0} → Bool → A → Option A → Option A
picked true a o = Some a
picked false a o = o

-- two forms that read the same, the facts of their tokens aside
abbrev pub matches : Grammar → Grammar → Bool
matches (token b k) (token c j) = same_choice k j
matches (mark b x) (mark c y) = same_text x y
matches (g & h) (x & y) = and (matches g x) (matches h y)
matches (when c then g else h) (when d then x else y) = and (same_look c d) (and (matches g x) (matches h y))
matches g h = same g h

pub then_alike : (o : Out) (p q : Parser) → ((r : Stream) → p r ≡ q r) → and_then o p ≡ and_then o q
then_alike (Some x) p q h = ap (wrap (Both x.0)) (h x.1)
then_alike None p q h = refl

pub matches_is : (g h : Grammar) (m : Stream) → matches g h ≡ true → parse_form g m ≡ parse_form h m
matches_is (token b k) (token c j) m e = ap (λ z. take_token z m) (same_choice_eq k j e)
matches_is (mark b x) (mark c y) m e = ap (λ z. take_mark z m) (same_text_eq x y e)
matches_is (g & h) (x & y) m e =
    ap (λ z. and_then z (parse_form h)) (matches_is g x m (and_left (matches g x) _ e)) ∙ then_alike (parse_form x m) (parse_form h) (parse_form y) (λ r. matches_is h y r (and_right (matches g x) _ e))
matches_is (when c then g else h) (when d then x else y) m e =
    let q = and_right (same_look c d) _ e in
    ap (λ z. branch (sees z m) (parse_form g m) (parse_form h m)) (same_look_eq c d (and_left (same_look c d) _ e))
    ∙ ap₂ (branch (sees d m)) (matches_is g x m (and_left (matches g x) _ q)) (matches_is h y m (and_right (matches g x) _ q))
matches_is g h m e = ap (λ z. parse_form z m) (same_eq g h e)

-- the piece a is next: what is left after it
abbrev pub eat : ℕ → Known → Grammar → State → Option (List Frame)
eat zero l a t = None
eat (suc n) l a (reading g k) =
    let r = bound (step l g k) (eat n l a) in
    pick (matches a g) (only (calm false k) (Some k)) r
eat (suc n) l a (holding s k) = None

pub frames_is : (a b : List Frame) → Some a ≡ Some b → a ≡ b
frames_is a b e = cc e

pub eat_is : (n : ℕ) (l : Known) (a : Grammar) (t : State) (k : List Frame) (m : Stream) → eat n l a t ≡ Some k → At l m → out t m ≡ resume k (parse_form a m)
eat_is zero l a t k m e w = absurd (cc e)
eat_is (suc n) l a (holding s j) k m e w = absurd (cc e)
eat_is (suc n) l a (reading g j) k m e w = go (matches a g) refl (λ t i. eat_is n l a t k m i w) e
  where
    further : (o : Option State) → step l g j ≡ o → ((t : State) → eat n l a t ≡ Some k → out t m ≡ resume k (parse_form a m)) → bound o (eat n l a) ≡ Some k → resume j (parse_form g m) ≡ resume k (parse_form a m)
    further None p f q = absurd (cc q)
    further (Some t) p f q = step_is l g j t m p w ∙ f t q

    go : (v : Bool) → matches a g ≡ v → ((t : State) → eat n l a t ≡ Some k → out t m ≡ resume k (parse_form a m)) → pick v (only (calm false j) (Some j)) (bound (step l g j) (eat n l a)) ≡ Some k → resume j (parse_form g m) ≡ resume k (parse_form a m)
    go true p f q = ap₂ resume (frames_is j k (only_is (calm false j) j k q).1) (sym (matches_is a g m p))
    go false p f q = further (step l g j) refl f q

-- the whole was read, with this value
abbrev pub finish : ℕ → Known → State → Option Syntax
finish zero l t = None
finish (suc n) l (holding s []) = Some s
finish (suc n) l (holding s (f ∷ k)) = None
finish (suc n) l (reading g k) = bound (step l g k) (finish n l)

pub finish_is : (n : ℕ) (l : Known) (t : State) (s : Syntax) (m : Stream) → finish n l t ≡ Some s → At l m → out t m ≡ Some (s, m)
finish_is zero l t s m e w = absurd (cc e)
finish_is (suc n) l (holding u []) s m e w = let i : u ≡ s = cc e in ap (λ z. Some (z, m)) i
finish_is (suc n) l (holding u (f ∷ k)) s m e w = absurd (cc e)
finish_is (suc n) l (reading g k) s m e w = go (step l g k) refl (λ t q. finish_is n l t s m q w) e
  where
    go : (o : Option State) → step l g k ≡ o → ((t : State) → finish n l t ≡ Some s → out t m ≡ Some (s, m)) → bound o (finish n l) ≡ Some s → resume k (parse_form g m) ≡ Some (s, m)
    go None p f q = absurd (cc q)
    go (Some t) p f q = step_is l g k t m p w ∙ f t q

-- what is left to read
abbrev pub todos : List Frame → List Grammar
todos [] = []
todos (and_next h ∷ k) = h ∷ todos k
todos (and_after h ∷ k) = h ∷ todos k
todos (f ∷ k) = todos k

abbrev pub todo : State → List Grammar
todo (reading g k) = g ∷ todos k
todo (holding s k) = todos k

pub todos_none : (k : List Frame) (o : Out) → onward (rest o) (recog (todos k)) ≡ None → resume k o ≡ None
todos_none k None e = resume_none k
todos_none [] (Some p) e = absurd (cc e)
todos_none (and_next h ∷ k) (Some p) e = todos_none k (wrap (Both p.0) (parse_form h p.1)) (ap (λ z. onward z (recog (todos k))) (rest_wrap (Both p.0) (parse_form h p.1)) ∙ e)
todos_none (and_after h ∷ k) (Some p) e = todos_none k (wrap (Impl p.0) (parse_form h p.1)) (ap (λ z. onward z (recog (todos k))) (rest_wrap (Impl p.0) (parse_form h p.1)) ∙ e)
todos_none (beside s ∷ k) (Some p) e = todos_none k (Some (Both s p.0, p.1)) e
todos_none (in_left ∷ k) (Some p) e = todos_none k (Some (Left p.0, p.1)) e
todos_none (in_right ∷ k) (Some p) e = todos_none k (Some (Right p.0, p.1)) e
todos_none (in_node ∷ k) (Some p) e = todos_none k (Some (Node p.0, p.1)) e
todos_none (in_case l ∷ k) (Some p) e = todos_none k (Some (Case l p.0, p.1)) e
todos_none (in_shape j ∷ k) (Some p) e = todos_none k (Some (shape j p.0, p.1)) e
todos_none (in_vanishing b ∷ k) (Some p) e = todos_none k (Some (Vanishing b (pick b (Right Nothing) p.0), p.1)) e
todos_none (in_such q ∷ k) (Some p) e = go (holds q p.0) (todos_none k (Some (Such p.0, p.1)) e)
  where
    go : (v : Bool) → resume k (Some (Such p.0, p.1)) ≡ None → resume k (only {A = Syntax × Stream} v (Some (Such p.0, p.1))) ≡ None
    go true i = i
    go false i = resume_none k
todos_none (with_generics s ∷ k) (Some p) e = todos_none k (Some (Impl s p.0, p.1)) e

pub todo_none : (t : State) (m : Stream) → recog (todo t) m ≡ None → out t m ≡ None
todo_none (reading g k) m e = todos_none k (parse_form g m) e
todo_none (holding s k) m e = todos_none k (Some (s, m)) e

-- ---- THE SAME OF VERBATIM FORMS, whose forms don't matter

abbrev pub opened : Known → Grammar → Option (List Grammar)
opened l (g & h) = Some (g ∷ h ∷ [])
opened l (rule k) = Some (table k ∷ [])
opened l (when c then x else y) = picked (clash c false l) (x ∷ []) (only (clash c true l) (Some (y ∷ [])))
opened l (vanishing b c x) = Some ((when c then x else empty) ∷ [])
opened l empty = Some []
opened l unshown = Some []
opened l (shaped j x) = Some (x ∷ [])
opened l (captured x) = Some (x ∷ [])
opened l (generics_before x y h) = Some (opt_generics x y ∷ h ∷ [])
opened l g = None

pub pick_true : {A : Type 0} (v : Bool) (a b : A) → v ≡ true → pick v a b ≡ a
pick_true true a b e = refl
pick_true false a b e = absurd (true≢false (sym e))

pub pick_false : {A : Type 0} (v : Bool) (a b : A) → v ≡ false → pick v a b ≡ b
pick_false false a b e = refl
pick_false true a b e = absurd (true≢false e)

pub opened_is : (l : Known) (g : Grammar) (xs fs : List Grammar) (m : Stream) → opened l g ≡ Some xs → At l m → recog (g ∷ fs) m ≡ recog (xs ++ fs) m
opened_is l (g & h) xs fs m e w = recog_then g h fs m ∙ ap (λ z. recog (z ++ fs) m) (some_is (g ∷ h ∷ []) xs e)
opened_is l (rule k) xs fs m e w = recog_rule k fs m ∙ ap (λ z. recog (z ++ fs) m) (some_is (table k ∷ []) xs e)
opened_is l (when c then x else y) xs fs m e w = go (clash c false l) (clash c true l) refl refl e
  where
    go : (a b : Bool) → clash c false l ≡ a → clash c true l ≡ b → picked a (x ∷ []) (only b (Some (y ∷ []))) ≡ Some xs → recog ((when c then x else y) ∷ fs) m ≡ recog (xs ++ fs) m
    go true b p q i =
        let v = not_false (sees c m) (at_clash c false l m p w) in
        ap (λ z. onward z (recog fs)) (rest_branch true c x y m v) ∙ ap (λ z. recog (z ++ fs) m) (some_is (x ∷ []) xs i)
    go false true p q i =
        let v = not_true (sees c m) (at_clash c true l m q w) in
        ap (λ z. onward z (recog fs)) (rest_branch false c x y m v) ∙ ap (λ z. recog (z ++ fs) m) (some_is (y ∷ []) xs i)
    go false false p q i = absurd (cc i)
opened_is l (vanishing b c x) xs fs m e w = ap (λ z. onward z (recog fs)) (rest_vanish b (parse_form (when c then x else empty) m)) ∙ ap (λ z. recog (z ++ fs) m) (some_is ((when c then x else empty) ∷ []) xs e)
opened_is l empty xs fs m e w = ap (λ z. recog (z ++ fs) m) (some_is [] xs e)
opened_is l unshown xs fs m e w = ap (λ z. recog (z ++ fs) m) (some_is [] xs e)
opened_is l (shaped j x) xs fs m e w = ap (λ z. onward z (recog fs)) (rest_wrap (shape j) (parse_form x m)) ∙ ap (λ z. recog (z ++ fs) m) (some_is (x ∷ []) xs e)
opened_is l (captured x) xs fs m e w = ap (λ z. onward z (recog fs)) (rest_caught m (parse_form x m)) ∙ ap (λ z. recog (z ++ fs) m) (some_is (x ∷ []) xs e)
opened_is l (generics_before x y h) xs fs m e w =
    ap (λ z. onward z (recog fs)) (rest_impl (parse_form (opt_generics x y) m) (parse_form h)) ∙ onward_onward (rest (parse_form (opt_generics x y) m)) (λ r. rest (parse_form h r)) (recog fs)
    ∙ ap (λ z. recog (z ++ fs) m) (some_is (opt_generics x y ∷ h ∷ []) xs e)
opened_is l (token b x) xs fs m e w = absurd (cc e)
opened_is l (mark b x) xs fs m e w = absurd (cc e)
opened_is l lifetime xs fs m e w = absurd (cc e)
opened_is l (inside d x) xs fs m e w = absurd (cc e)
opened_is l (raw d) xs fs m e w = absurd (cc e)
opened_is l (rest_after x) xs fs m e w = absurd (cc e)
opened_is l (either x y) xs fs m e w = absurd (cc e)
opened_is l (one_of x) xs fs m e w = absurd (cc e)
opened_is l (such q x) xs fs m e w = absurd (cc e)
opened_is l (supplied n x y) xs fs m e w = absurd (cc e)
opened_is l (row x y) xs fs m e w = absurd (cc e)
opened_is l (ordered x y) xs fs m e w = absurd (cc e)

-- which of two forms is opened next
abbrev pub split : Grammar → Option (List Grammar)
split (g & h) = Some (g ∷ h ∷ [])
split g = None

pub split_is : (l : Known) (g : Grammar) (xs fs : List Grammar) (m : Stream) → split g ≡ Some xs → At l m → recog (g ∷ fs) m ≡ recog (xs ++ fs) m
split_is l (g & h) xs fs m e w = opened_is l (g & h) xs fs m e w
split_is l _ xs fs m e w = absurd (cc e)

pub data Side : Type 0 where
  mine its : List Grammar → Side

abbrev pub as_side : (List Grammar → Side) → Option (List Grammar) → Option Side → Option Side
as_side f (Some xs) o = Some (f xs)
as_side f None o = o

-- a form that the known facts open, and no rule
abbrev pub early : Known → Grammar → Option (List Grammar)
early l (rule k) = None
early l g = opened l g

pub early_is : (l : Known) (g : Grammar) (xs fs : List Grammar) (m : Stream) → early l g ≡ Some xs → At l m → recog (g ∷ fs) m ≡ recog (xs ++ fs) m
early_is l (rule k) xs fs m e w = absurd (cc e)
early_is l g xs fs m e w = opened_is l g xs fs m e w

abbrev pub side : Known → Grammar → Grammar → Option Side
side l a g = as_side its (split g) (as_side mine (split a) (as_side its (early l g) (as_side mine (opened l a) (as_side its (opened l g) None))))

abbrev pub by_side : {B : Type 0} → Option Side → (List Grammar → Option B) → (List Grammar → Option B) → Option B
by_side (Some (mine xs)) f h = f xs
by_side (Some (its xs)) f h = h xs
by_side None f h = None

abbrev pub Sided : Known → Grammar → Grammar → Side → Type 0
Sided l a g (mine xs) = (fs : List Grammar) (m : Stream) → At l m → recog (a ∷ fs) m ≡ recog (xs ++ fs) m
Sided l a g (its xs) = (fs : List Grammar) (m : Stream) → At l m → recog (g ∷ fs) m ≡ recog (xs ++ fs) m

abbrev pub Siding : Known → Grammar → Grammar → Option Side → Type 0
Siding l a g o = (x : Side) → o ≡ Some x → Sided l a g x

pub siding : (l : Known) (a g : Grammar) (x : Side) → Sided l a g x → Siding l a g (Some x)
siding l a g x h y e = subst (Sided l a g) (some_is x y e) h

pub side_is : (l : Known) (a g : Grammar) → Siding l a g (side l a g)
side_is l a g = one (split g) refl
  where
    five : (o : Option (List Grammar)) → opened l g ≡ o → Siding l a g (as_side its o None)
    five (Some xs) e = siding l a g (its xs) (λ fs m w. opened_is l g xs fs m e w)
    five None e = λ x q. absurd (cc q)

    four : (o : Option (List Grammar)) → opened l a ≡ o → Siding l a g (as_side mine o (as_side its (opened l g) None))
    four (Some xs) e = siding l a g (mine xs) (λ fs m w. opened_is l a xs fs m e w)
    four None e = five (opened l g) refl

    three : (o : Option (List Grammar)) → early l g ≡ o → Siding l a g (as_side its o (as_side mine (opened l a) (as_side its (opened l g) None)))
    three (Some xs) e = siding l a g (its xs) (λ fs m w. early_is l g xs fs m e w)
    three None e = four (opened l a) refl

    two : (o : Option (List Grammar)) → split a ≡ o → Siding l a g (as_side mine o (as_side its (early l g) (as_side mine (opened l a) (as_side its (opened l g) None))))
    two (Some xs) e = siding l a g (mine xs) (λ fs m w. split_is l a xs fs m e w)
    two None e = three (early l g) refl

    one : (o : Option (List Grammar)) → split g ≡ o → Siding l a g (as_side its o (as_side mine (split a) (as_side its (early l g) (as_side mine (opened l a) (as_side its (opened l g) None)))))
    one (Some xs) e = siding l a g (its xs) (λ fs m w. split_is l g xs fs m e w)
    one None e = two (split a) refl

-- these forms are the first of those: the rest of those
abbrev pub eat_list : ℕ → Known → List Grammar → List Grammar → Option (List Grammar)
eat_list zero l bs fs = None
eat_list (suc n) l [] fs = Some fs
eat_list (suc n) l (a ∷ bs) [] = None
eat_list (suc n) l (a ∷ bs) (g ∷ fs) =
    let q = eat_list n [] bs fs in
    let r = by_side (side l a g) (λ xs. eat_list n l (xs ++ bs) (g ∷ fs)) (λ xs. eat_list n l (a ∷ bs) (xs ++ fs)) in
    pick (matches a g) q r

pub onward_alike : (o : Option Stream) (f g : Stream → Option Stream) → ((r : Stream) → f r ≡ g r) → onward o f ≡ onward o g
onward_alike (Some r) f g h = h r
onward_alike None f g h = refl

abbrev pub ByMine : ℕ → Known → List Grammar → Grammar → List Grammar → List Grammar → Stream → Type 0
ByMine n l bs g fs gs m = (xs : List Grammar) → eat_list n l (xs ++ bs) (g ∷ fs) ≡ Some gs → recog (g ∷ fs) m ≡ onward (recog (xs ++ bs) m) (recog gs)

abbrev pub ByIts : ℕ → Known → Grammar → List Grammar → List Grammar → List Grammar → Stream → Type 0
ByIts n l a bs fs gs m = (xs : List Grammar) → eat_list n l (a ∷ bs) (xs ++ fs) ≡ Some gs → recog (xs ++ fs) m ≡ onward (recog (a ∷ bs) m) (recog gs)

pub eat_list_is : (n : ℕ) (l : Known) (bs fs gs : List Grammar) (m : Stream) → eat_list n l bs fs ≡ Some gs → At l m → recog fs m ≡ onward (recog bs m) (recog gs)
eat_list_is zero l bs fs gs m e w = absurd (cc e)
eat_list_is (suc n) l [] fs gs m e w = ap (λ z. recog z m) (some_is fs gs e)
eat_list_is (suc n) l (a ∷ bs) [] gs m e w = absurd (cc e)
eat_list_is (suc n) l (a ∷ bs) (g ∷ fs) gs m e w =
    go (matches a g) refl (λ r q. eat_list_is n [] bs fs gs r q tt) (λ xs q. eat_list_is n l (xs ++ bs) (g ∷ fs) gs m q w) (λ xs q. eat_list_is n l (a ∷ bs) (xs ++ fs) gs m q w) e
  where
    which : (o : Option Side) → side l a g ≡ o → ByMine n l bs g fs gs m → ByIts n l a bs fs gs m → by_side o (λ xs. eat_list n l (xs ++ bs) (g ∷ fs)) (λ xs. eat_list n l (a ∷ bs) (xs ++ fs)) ≡ Some gs → recog (g ∷ fs) m ≡ onward (recog (a ∷ bs) m) (recog gs)
    which (Some (mine xs)) p f h q = f xs q ∙ ap (λ z. onward z (recog gs)) (sym (side_is l a g (mine xs) p bs m w))
    which (Some (its xs)) p f h q = side_is l a g (its xs) p fs m w ∙ h xs q
    which None p f h q = absurd (cc q)

    go : (v : Bool) → matches a g ≡ v → ((r : Stream) → eat_list n [] bs fs ≡ Some gs → recog fs r ≡ onward (recog bs r) (recog gs)) → ByMine n l bs g fs gs m → ByIts n l a bs fs gs m →
        pick v (eat_list n [] bs fs) (by_side (side l a g) (λ xs. eat_list n l (xs ++ bs) (g ∷ fs)) (λ xs. eat_list n l (a ∷ bs) (xs ++ fs))) ≡ Some gs → recog (g ∷ fs) m ≡ onward (recog (a ∷ bs) m) (recog gs)
    go true p d f h q =
        ap (λ z. onward (rest z) (recog fs)) (sym (matches_is a g m p)) ∙ onward_alike (rest (parse_form a m)) (recog fs) (λ r. onward (recog bs r) (recog gs)) (λ r. d r q)
        ∙ sym (onward_onward (rest (parse_form a m)) (recog bs) (recog gs))
    go false p d f h q = which (side l a g) refl f h q

-- all of these forms read nothing, and don't fail
abbrev pub holds_of : Option (List Grammar) → (List Grammar → Bool) → Bool
holds_of (Some xs) f = f xs
holds_of None f = false

abbrev pub finish_list : ℕ → Known → List Grammar → Bool
finish_list zero l fs = false
finish_list (suc n) l [] = true
finish_list (suc n) l (g ∷ fs) = holds_of (opened l g) (λ xs. finish_list n l (xs ++ fs))

pub finish_list_is : (n : ℕ) (l : Known) (fs : List Grammar) (m : Stream) → finish_list n l fs ≡ true → At l m → recog fs m ≡ Some m
finish_list_is zero l fs m e w = absurd (true≢false (sym e))
finish_list_is (suc n) l [] m e w = refl
finish_list_is (suc n) l (g ∷ fs) m e w = go (opened l g) refl (λ xs q. finish_list_is n l (xs ++ fs) m q w) e
  where
    go : (o : Option (List Grammar)) → opened l g ≡ o → ((xs : List Grammar) → finish_list n l (xs ++ fs) ≡ true → recog (xs ++ fs) m ≡ Some m) → holds_of o (λ xs. finish_list n l (xs ++ fs)) ≡ true → recog (g ∷ fs) m ≡ Some m
    go (Some xs) p f q = opened_is l g xs fs m p w ∙ f xs q
    go None p f q = absurd (true≢false (sym q))

-- ---- ALTERNATIVES SIDE BY SIDE

pub data Thread : Type 0 where
  of_kind : State → Thread  -- a kind of its own
  of_kept : State → Thread  -- verbatim
  listed : List Grammar → Thread  -- the same, where the forms are of no interest

abbrev pub keep : Rule → Stream → Option Stream → Out
keep k ts (Some r) = Some (kept_as k ts r, r)
keep k ts None = None

abbrev pub answer : Rule → Stream → Thread → Stream → Out
answer k ts (of_kind t) m = out t m
answer k ts (of_kept t) m = keep k ts (rest (out t m))
answer k ts (listed fs) m = keep k ts (recog fs m)

abbrev pub first : Out → Out → Out
first (Some x) o = Some x
first None o = o

abbrev pub answer_all : Rule → Stream → List Thread → Stream → Out
answer_all k ts [] m = None
answer_all k ts (t ∷ l) m = first (answer k ts t m) (answer_all k ts l m)

-- how far forms are followed
abbrev pub fuel : ℕ
fuel = 48

-- a piece is read
abbrev pub eat_thread : Known → Grammar → Thread → Option (Syntax → Thread)
eat_thread l a (of_kind t) = bound (eat fuel l a t) (λ k. Some (λ s. of_kind (back k s)))
eat_thread l a (of_kept t) = bound (eat fuel l a t) (λ k. Some (λ s. of_kept (back k s)))
eat_thread l a (listed fs) = bound (eat_list fuel l (a ∷ []) fs) (λ gs. Some (λ s. listed gs))

abbrev pub Follows : Rule → Stream → Stream → Grammar → Thread → (Syntax → Thread) → Type 0
Follows k ts m a t u = answer k ts t m ≡ follow (λ s r. answer k ts (u s) r) (parse_form a m)

pub eat_thread_is : (k : Rule) (ts : Stream) (l : Known) (a : Grammar) (t : Thread) (u : Syntax → Thread) (m : Stream) → eat_thread l a t ≡ Some u → At l m → Follows k ts m a t u
eat_thread_is k ts l a (of_kind t) u m e w = go (eat fuel l a t) refl e
  where
    go : (o : Option (List Frame)) → eat fuel l a t ≡ o → bound o (λ k. Some (λ s. of_kind (back k s))) ≡ Some u → Follows k ts m a (of_kind t) u
    go None p q = absurd (cc q)
    go (Some j) p q = eat_is fuel l a t j m p w ∙ which (parse_form a m) ∙ ap (λ v. follow (λ s r. answer k ts (v s) r) (parse_form a m)) (some_is (λ s. of_kind (back j s)) u q)
      where
        which : (o : Out) → resume j o ≡ follow (λ s r. out (back j s) r) o
        which None = resume_none j
        which (Some x) = sym (back_is j x.0 x.1)
eat_thread_is k ts l a (of_kept t) u m e w = go (eat fuel l a t) refl e
  where
    go : (o : Option (List Frame)) → eat fuel l a t ≡ o → bound o (λ k. Some (λ s. of_kept (back k s))) ≡ Some u → Follows k ts m a (of_kept t) u
    go None p q = absurd (cc q)
    go (Some j) p q = ap (λ z. keep k ts (rest z)) (eat_is fuel l a t j m p w) ∙ which (parse_form a m) ∙ ap (λ v. follow (λ s r. answer k ts (v s) r) (parse_form a m)) (some_is (λ s. of_kept (back j s)) u q)
      where
        which : (o : Out) → keep k ts (rest (resume j o)) ≡ follow (λ s r. keep k ts (rest (out (back j s) r))) o
        which None = ap (λ z. keep k ts (rest z)) (resume_none j)
        which (Some x) = ap (λ z. keep k ts (rest z)) (sym (back_is j x.0 x.1))
eat_thread_is k ts l a (listed fs) u m e w = go (eat_list fuel l (a ∷ []) fs) refl e
  where
    go : (o : Option (List Grammar)) → eat_list fuel l (a ∷ []) fs ≡ o → bound o (λ gs. Some (λ s. listed gs)) ≡ Some u → Follows k ts m a (listed fs) u
    go None p q = absurd (cc q)
    go (Some gs) p q =
        ap (keep k ts) (eat_list_is fuel l (a ∷ []) fs gs m p w ∙ onward_onward (rest (parse_form a m)) (λ r. Some r) (recog gs)) ∙ which (parse_form a m)
        ∙ ap (λ v. follow (λ s r. answer k ts (v s) r) (parse_form a m)) (some_is (λ s. listed gs) u q)
      where
        which : (o : Out) → keep k ts (onward (rest o) (λ r. recog gs r)) ≡ follow (λ s r. keep k ts (recog gs r)) o
        which None = refl
        which (Some x) = refl

abbrev pub paired : Option (Syntax → Thread) → Option (Syntax → List Thread) → Option (Syntax → List Thread)
paired (Some u) (Some v) = Some (λ s. u s ∷ v s)
paired _ _ = None

abbrev pub eaten : Known → Grammar → List Thread → Option (Syntax → List Thread)
eaten l a [] = Some (λ s. [])
eaten l a (t ∷ ths) = paired (eat_thread l a t) (eaten l a ths)

pub follow_none : (o : Out) → None ≡ follow (λ s r. None) o
follow_none None = refl
follow_none (Some x) = refl

pub eaten_is : (k : Rule) (ts : Stream) (l : Known) (a : Grammar) (ths : List Thread) (v : Syntax → List Thread) (m : Stream) → eaten l a ths ≡ Some v → At l m →
    answer_all k ts ths m ≡ follow (λ s r. answer_all k ts (v s) r) (parse_form a m)
eaten_is k ts l a [] v m e w = follow_none (parse_form a m) ∙ ap (λ v. follow (λ s r. answer_all k ts (v s) r) (parse_form a m)) (some_is (λ s. []) v e)
eaten_is k ts l a (t ∷ ths) v m e w = go (eat_thread l a t) (eaten l a ths) refl refl (λ v q. eaten_is k ts l a ths v m q w) e
  where
    go : (o : Option (Syntax → Thread)) (p : Option (Syntax → List Thread)) → eat_thread l a t ≡ o → eaten l a ths ≡ p →
        ((v : Syntax → List Thread) → eaten l a ths ≡ Some v → answer_all k ts ths m ≡ follow (λ s r. answer_all k ts (v s) r) (parse_form a m)) → paired o p ≡ Some v →
        answer_all k ts (t ∷ ths) m ≡ follow (λ s r. answer_all k ts (v s) r) (parse_form a m)
    go None p i j f q = absurd (cc q)
    go (Some u) None i j f q = absurd (cc q)
    go (Some u) (Some x) i j f q =
        ap₂ first (eat_thread_is k ts l a t u m i w) (f x j) ∙ which (parse_form a m) ∙ ap (λ v. follow (λ s r. answer_all k ts (v s) r) (parse_form a m)) (some_is (λ s. u s ∷ x s) v q)
      where
        which : (o : Out) → first (follow (λ s r. answer k ts (u s) r) o) (follow (λ s r. answer_all k ts (x s) r) o) ≡ follow (λ s r. answer_all k ts (u s ∷ x s) r) o
        which None = refl
        which (Some y) = refl

-- those that may still read something
abbrev pub dead : Known → Thread → Bool
dead l (of_kind t) = gone fuel l (todo t)
dead l (of_kept t) = gone fuel l (todo t)
dead l (listed fs) = gone fuel l fs

pub dead_is : (k : Rule) (ts : Stream) (l : Known) (t : Thread) (m : Stream) → dead l t ≡ true → At l m → answer k ts t m ≡ None
dead_is k ts l (of_kind t) m e w = todo_none t m (gone_is fuel l (todo t) m e w)
dead_is k ts l (of_kept t) m e w = ap (λ z. keep k ts (rest z)) (todo_none t m (gone_is fuel l (todo t) m e w))
dead_is k ts l (listed fs) m e w = ap (keep k ts) (gone_is fuel l fs m e w)

abbrev pub alive : Known → List Thread → List Thread
alive l [] = []
alive l (t ∷ ths) = pick (dead l t) (alive l ths) (t ∷ alive l ths)

pub alive_is : (k : Rule) (ts : Stream) (l : Known) (ths : List Thread) (m : Stream) → At l m → answer_all k ts ths m ≡ answer_all k ts (alive l ths) m
alive_is k ts l [] m w = refl
alive_is k ts l (t ∷ ths) m w = go (dead l t) refl (alive_is k ts l ths m w)
  where
    go : (v : Bool) → dead l t ≡ v → answer_all k ts ths m ≡ answer_all k ts (alive l ths) m → answer_all k ts (t ∷ ths) m ≡ answer_all k ts (pick v (alive l ths) (t ∷ alive l ths)) m
    go true p i = ap₂ first (dead_is k ts l t m p w) i
    go false p i = ap (first (answer k ts t m)) i

-- tests
abbrev pub contrary : Test → Test → Bool
contrary (has k) (has_no l) = same_rule k l
contrary (has_no k) (has l) = same_rule k l
contrary trailing_brace no_trailing_brace = true
contrary no_trailing_brace trailing_brace = true
contrary _ _ = false

pub no_no : (b : Bool) → b ≡ no (no b)
no_no true = refl
no_no false = refl

pub contrary_is : (p q : Test) (s : Syntax) → contrary p q ≡ true → holds q s ≡ no (holds p s)
contrary_is (has k) (has_no l) s e = ap (λ z. no (has_part z s)) (sym (same_rule_eq k l e))
contrary_is (has_no k) (has l) s e = ap (λ z. has_part z s) (sym (same_rule_eq k l e)) ∙ no_no (has_part k s)
contrary_is trailing_brace no_trailing_brace s e = refl
contrary_is no_trailing_brace trailing_brace s e = no_no (ends_brace s)
contrary_is _ _ s e = absurd (true≢false (sym e))

abbrev pub Tried : Test → Syntax → State → Type 0
Tried q s (holding u (in_such p ∷ k)) = (u ≡ s) × (and (or (same_test q p) (contrary q p)) (calm false k) ≡ true)
Tried q s t = ⊥

abbrev pub TriedThread : Test → Syntax → Thread → Type 0
TriedThread q s (of_kind t) = Tried q s t
TriedThread q s (of_kept t) = Tried q s t
TriedThread q s (listed fs) = ⊥

abbrev pub TriedAll : Test → Syntax → List Thread → Type 0
TriedAll q s [] = Unit {0}
TriedAll q s (t ∷ ths) = TriedThread q s t × TriedAll q s ths

-- its known result
abbrev pub verdict : Test → Bool → Test → Bool
verdict q b p = pick (same_test q p) b (no b)

abbrev pub passed_state : Test → Bool → State → Option State
passed_state q b (holding u (in_such p ∷ k)) = only (verdict q b p) (Some (back k (Such u)))
passed_state q b t = None

abbrev pub with_state : (State → Thread) → Option State → List Thread → List Thread
with_state f (Some t) l = f t ∷ l
with_state f None l = l

abbrev pub passed : Test → Bool → List Thread → List Thread
passed q b [] = []
passed q b (of_kind t ∷ ths) = with_state of_kind (passed_state q b t) (passed q b ths)
passed q b (of_kept t ∷ ths) = with_state of_kept (passed_state q b t) (passed q b ths)
passed q b (listed fs ∷ ths) = passed q b ths

abbrev pub out_of : Option State → Stream → Out
out_of (Some t) m = out t m
out_of None m = None

pub passed_is : (q : Test) (s : Syntax) (b : Bool) (t : State) (m : Stream) → Tried q s t → holds q s ≡ b → out t m ≡ out_of (passed_state q b t) m
passed_is q s b (holding u (in_such p ∷ k)) m (e, f) h = ap (λ v. resume k (only {A = Syntax × Stream} v (Some (Such u, m)))) (says (same_test q p) refl) ∙ go (verdict q b p)
  where
    says : (v : Bool) → same_test q p ≡ v → holds p u ≡ pick v b (no b)
    says true i = ap (λ z. holds z u) (sym (same_test_eq q p i)) ∙ ap (holds q) e ∙ h
    says false i = contrary_is q p u (ap (λ v. or v (contrary q p)) (sym i) ∙ and_left (or (same_test q p) (contrary q p)) (calm false k) f) ∙ ap (λ z. no (holds q z)) e ∙ ap no h

    go : (v : Bool) → resume k (only {A = Syntax × Stream} v (Some (Such u, m))) ≡ out_of (only v (Some (back k (Such u)))) m
    go true = sym (back_is k (Such u) m)
    go false = resume_none k
passed_is q s b (holding u (and_next x ∷ k)) m w h = elim w [ ]
passed_is q s b (holding u (beside x ∷ k)) m w h = elim w [ ]
passed_is q s b (holding u (in_left ∷ k)) m w h = elim w [ ]
passed_is q s b (holding u (in_right ∷ k)) m w h = elim w [ ]
passed_is q s b (holding u (in_node ∷ k)) m w h = elim w [ ]
passed_is q s b (holding u (in_case x ∷ k)) m w h = elim w [ ]
passed_is q s b (holding u (in_shape x ∷ k)) m w h = elim w [ ]
passed_is q s b (holding u (in_vanishing x ∷ k)) m w h = elim w [ ]
passed_is q s b (holding u (and_after x ∷ k)) m w h = elim w [ ]
passed_is q s b (holding u (with_generics x ∷ k)) m w h = elim w [ ]
passed_is q s b (holding u []) m w h = elim w [ ]
passed_is q s b (reading g k) m w h = elim w [ ]

pub passed_all_is : (k : Rule) (ts : Stream) (q : Test) (s : Syntax) (b : Bool) (ths : List Thread) (m : Stream) → TriedAll q s ths → holds q s ≡ b → answer_all k ts ths m ≡ answer_all k ts (passed q b ths) m
passed_all_is k ts q s b [] m w h = refl
passed_all_is k ts q s b (of_kind t ∷ ths) m w h = ap₂ first (passed_is q s b t m w.0 h) (passed_all_is k ts q s b ths m w.1 h) ∙ go (passed_state q b t)
  where
    go : (o : Option State) → first (out_of o m) (answer_all k ts (passed q b ths) m) ≡ answer_all k ts (with_state of_kind o (passed q b ths)) m
    go (Some t) = refl
    go None = refl
passed_all_is k ts q s b (of_kept t ∷ ths) m w h = ap₂ (λ y z. first (keep k ts (rest y)) z) (passed_is q s b t m w.0 h) (passed_all_is k ts q s b ths m w.1 h) ∙ go (passed_state q b t)
  where
    go : (o : Option State) → first (keep k ts (rest (out_of o m))) (answer_all k ts (passed q b ths) m) ≡ answer_all k ts (with_state of_kept o (passed q b ths)) m
    go (Some t) = refl
    go None = refl
passed_all_is k ts q s b (listed fs ∷ ths) m w h = elim w.0 [ ]

-- ---- A PLAN FITS ALTERNATIVES, where this is known of the next token

abbrev pub all_kept : List Thread → Bool
all_kept [] = true
all_kept (of_kind t ∷ ths) = false
all_kept (t ∷ ths) = all_kept ths

abbrev pub Provided : Option (Syntax → List Thread) → ((Syntax → List Thread) → Type 0) → Type 0
Provided (Some v) f = f v
Provided None f = ⊥

abbrev pub Ends : Syntax → Known → List Thread → Type 0
Ends s l (of_kind t ∷ ths) = finish fuel l t ≡ Some s
Ends s l _ = ⊥

abbrev pub is_finished : Option Syntax → Bool
is_finished (Some s) = true
is_finished None = false

abbrev pub Done : Known → List Thread → Type 0
Done l (of_kept t ∷ ths) = is_finished (finish fuel l t) ≡ true
Done l (listed fs ∷ ths) = finish_list fuel l fs ≡ true
Done l _ = ⊥

abbrev pub NoneLeft : List Thread → Type 0
NoneLeft [] = Unit {0}
NoneLeft (t ∷ ths) = ⊥

abbrev pub Fits : Plan → Known → List Thread → Type 0
Fits (reads g f) l ths = Provided (eaten l g ths) (λ v. (s : Syntax) → Fits (f s) [] (v s))
Fits (turns c p q) l ths = Fits p (noted c true l) (alive (noted c true l) ths) × Fits q (noted c false l) (alive (noted c false l) ths)
Fits (tests t s p q) l ths = TriedAll t s ths × (Fits p l (passed t true ths) × Fits q l (passed t false ths))
Fits (keeps p) l ths = (all_kept ths ≡ true) × Fits p l ths
Fits (ends s) l ths = Ends s l ths
Fits done l ths = Done l ths
Fits fails l ths = NoneLeft ths

pub ends_are : (k : Rule) (ts : Stream) (s : Syntax) (l : Known) (ths : List Thread) (m : Stream) → Ends s l ths → At l m → answer_all k ts ths m ≡ Some (s, m)
ends_are k ts s l (of_kind t ∷ ths) m e w = ap (λ z. first z (answer_all k ts ths m)) (finish_is fuel l t s m e w)
ends_are k ts s l (of_kept t ∷ ths) m e w = elim e [ ]
ends_are k ts s l (listed fs ∷ ths) m e w = elim e [ ]
ends_are k ts s l [] m e w = elim e [ ]

pub done_are : (k : Rule) (ts : Stream) (l : Known) (ths : List Thread) (m : Stream) → Done l ths → At l m → answer_all k ts ths m ≡ Some (kept_as k ts m, m)
done_are k ts l (of_kept t ∷ ths) m e w = go (finish fuel l t) refl e
  where
    go : (o : Option Syntax) → finish fuel l t ≡ o → is_finished o ≡ true → answer_all k ts (of_kept t ∷ ths) m ≡ Some (kept_as k ts m, m)
    go (Some s) p q = ap (λ z. first (keep k ts (rest z)) (answer_all k ts ths m)) (finish_is fuel l t s m p w)
    go None p q = absurd (true≢false (sym q))
done_are k ts l (listed fs ∷ ths) m e w = ap (λ z. first (keep k ts z) (answer_all k ts ths m)) (finish_list_is fuel l fs m e w)
done_are k ts l (of_kind t ∷ ths) m e w = elim e [ ]
done_are k ts l [] m e w = elim e [ ]

pub none_left : (k : Rule) (ts : Stream) (ths : List Thread) (m : Stream) → NoneLeft ths → answer_all k ts ths m ≡ None
none_left k ts [] m e = refl
none_left k ts (t ∷ ths) m e = elim e [ ]

-- A plan that fits alternatives reads what they do. Holds of every stream.
pub fits_is : (p : Plan) (l : Known) (ths : List Thread) (k : Rule) (ts m : Stream) → Fits p l ths → At l m → answer_all k ts ths m ≡ run_plan p k ts m
fits_is (reads g f) l ths k ts m e w = go (eaten l g ths) refl e (λ s v r i. fits_is (f s) [] (v s) k ts r i tt)
  where
    go : (o : Option (Syntax → List Thread)) → eaten l g ths ≡ o → Provided o (λ v. (s : Syntax) → Fits (f s) [] (v s)) →
        ((s : Syntax) (v : Syntax → List Thread) (r : Stream) → Fits (f s) [] (v s) → answer_all k ts (v s) r ≡ run_plan (f s) k ts r) →
        answer_all k ts ths m ≡ follow (λ s r. run_plan (f s) k ts r) (parse_form g m)
    go None p i ih = elim i [ ]
    go (Some v) p i ih = eaten_is k ts l g ths v m p w ∙ which (parse_form g m)
      where
        which : (o : Out) → follow (λ s r. answer_all k ts (v s) r) o ≡ follow (λ s r. run_plan (f s) k ts r) o
        which None = refl
        which (Some x) = ih x.0 v x.1 (i x.0)
fits_is (turns c p q) l ths k ts m e w =
    go (sees c m) refl (λ u. fits_is p (noted c true l) (alive (noted c true l) ths) k ts m e.0 u) (λ u. fits_is q (noted c false l) (alive (noted c false l) ths) k ts m e.1 u)
  where
    go : (v : Bool) → sees c m ≡ v → (At (noted c true l) m → answer_all k ts (alive (noted c true l) ths) m ≡ run_plan p k ts m) → (At (noted c false l) m → answer_all k ts (alive (noted c false l) ths) m ≡ run_plan q k ts m) →
        answer_all k ts ths m ≡ by_test v (run_plan p k ts m) (run_plan q k ts m)
    go true i f g = let u = at_noted c true l m w i in alive_is k ts (noted c true l) ths m u ∙ f u
    go false i f g = let u = at_noted c false l m w i in alive_is k ts (noted c false l) ths m u ∙ g u
fits_is (tests t s p q) l ths k ts m e w = go (holds t s) refl (fits_is p l (passed t true ths) k ts m e.1.0 w) (fits_is q l (passed t false ths) k ts m e.1.1 w)
  where
    go : (v : Bool) → holds t s ≡ v → answer_all k ts (passed t true ths) m ≡ run_plan p k ts m → answer_all k ts (passed t false ths) m ≡ run_plan q k ts m →
        answer_all k ts ths m ≡ by_test v (run_plan p k ts m) (run_plan q k ts m)
    go true i f g = passed_all_is k ts t s true ths m e.0 i ∙ f
    go false i f g = passed_all_is k ts t s false ths m e.0 i ∙ g
fits_is (keeps p) l ths k ts m e w = fits_is p l ths k ts m e.1 w
fits_is (ends s) l ths k ts m e w = ends_are k ts s l ths m e w
fits_is done l ths k ts m e w = done_are k ts l ths m e w
fits_is fails l ths k ts m e w = none_left k ts ths m e
