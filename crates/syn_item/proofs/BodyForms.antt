-- The attributes of what has a body: outer ones, and inner ones after them.
use Rattle.std.proofs.Common.{◌≡◌, ℕ, zero, suc, Bool, true, false, List, [], ◌∷◌, ◌++◌, Some, None, refl, sym, ap, ◌∙◌, true≢false}
use Rattle.std.specs.Prelude.{Option}
use Rattle.syn_grammar.specs.Words.{exclamation, pound}
use Rattle.syn_grammar.specs.Tokens.{Delimiter, Stream, Brace, Bracket, and, no, pick}
use Rattle.syn_grammar.specs.Rules.{Rule, body, inner_attributes, items, meta, statements}
use Rattle.syn_grammar.specs.Grammar.{Syntax, Nothing, Both, Left, Right, Node, Group, Unshown, Grammar, ◌&◌, inside, rule}
use Rattle.syn_grammar.specs.Forms.{asking_punctuation, punctuation}
use Rattle.syn_grammar.specs.Table.{at_inner_attribute}
use Rattle.syn_grammar.specs.Take.{Opened, Out, Parser, is_end, only, sees, take_group}
use Rattle.syn_grammar.specs.Run.{wrap, and_then, branch, close, run, runs, parse_form, parse_rule, within}
use Rattle.syn_grammar.proofs.Each.{body_is}
use Rattle.syn_grammar.proofs.Takes.{TreeAndRest}
use Rattle.syn_tokens.specs.InOrder.{in_order}
use Rattle.syn_recognize.specs.DeferredTokens.{whole_only}
use Rattle.syn_lower.specs.Attributes.{all_attributes_syntax, all_listed, attributes_syntax, every, inner_attributes_syntax, inner_listed, is_inner, is_outer, outer_listed, shown_before, syntax_of_Attribute}
use Rattle.syn_lower.specs.declared.attr.Attribute.{Attribute}
use Rattle.syn_lower.specs.Bodies.{attributes_before_body, attributes_in_body, listed_before, listed_inside, outer_first}

-- one result has one value
abbrev found : Syntax → Stream → Out
found s r = Some (s, r)

one_value : (a b : Syntax) (m r : Stream) → found a m ≡ found b r → a ≡ b
one_value a b m r e =
    let i : ◌≡◌ {A = TreeAndRest} (a, m) (b, r) = cc e in
    ap (λ (y : TreeAndRest). y.0) i

abbrev all : List Attribute → Syntax
all l = in_order syntax_of_Attribute l

-- WHAT THE RULE OF INNER ATTRIBUTES READS are inner ones alone: after the last of them nothing is unshown

abbrev attribute : Grammar
attribute = asking_punctuation pound & punctuation exclamation & inside Bracket (rule meta)

-- what follows the last attribute
abbrev tail : Syntax → Syntax
tail (Node (Left (Both a more))) = tail more
tail (Node (Right s)) = s
tail s = s

abbrev Known : ℕ → Type 0
Known n = (m : Stream) (t : Syntax) (q : Stream) → run n inner_attributes m ≡ Some (t, q) → tail t ≡ Unshown Nothing

read_tail : (n : ℕ) (ts : Stream) (s : Syntax) (r : Stream) → run n inner_attributes ts ≡ Some (s, r) → tail s ≡ Unshown Nothing
unfolding run
read_tail zero ts s r e = absurd (cc e)
read_tail (suc n) ts s r e = go (sees at_inner_attribute ts) (runs (run n) attribute ts) (read_tail n) e
  where
    further : (a : Syntax) (m : Stream) (o : Out) → Known n → run n inner_attributes m ≡ o → wrap Node (wrap Left (wrap (Both a) o)) ≡ Some (s, r) → tail s ≡ Unshown Nothing
    further a m None known h k = absurd (cc k)
    further a m (Some p) known h k =
        ap tail (sym (one_value (Node (Left (Both a p.0))) s p.1 r k)) ∙ known m p.0 p.1 h

    go : (b : Bool) (o : Out) → Known n → wrap Node (branch b (and_then o (run n inner_attributes)) (Some (Unshown Nothing, ts))) ≡ Some (s, r) → tail s ≡ Unshown Nothing
    go true None known h = absurd (cc h)
    go true (Some p) known h = further p.0 p.1 (run n inner_attributes p.1) known refl h
    go false o known h = ap tail (sym (one_value (Node (Right (Unshown Nothing))) s ts r h))

inner_tail : (ts : Stream) (s : Syntax) (r : Stream) → parse_rule inner_attributes ts ≡ Some (s, r) → tail s ≡ Unshown Nothing
unfolding parse_rule
inner_tail ts s r e = read_tail _ ts s r e

shown_tail : (test : Syntax → Bool) (u : Syntax) (l : List Attribute) → tail (shown_before test u (all l)) ≡ Unshown u
shown_tail test u [] = refl
shown_tail test u (a ∷ l) = go (test (syntax_of_Attribute a)) (shown_tail test u l)
  where
    go : (b : Bool) → tail (shown_before test u (all l)) ≡ Unshown u → tail (pick b (Node (Left (Both (syntax_of_Attribute a) (shown_before test u (all l))))) (shown_before test u (all l))) ≡ Unshown u
    go true h = h
    go false h = h

inner_all : (l : List Attribute) → tail (inner_listed (all l)) ≡ Unshown Nothing → every is_inner (all l) ≡ true
unfolding inner_listed
inner_all [] h = refl
inner_all (a ∷ l) h = go (every is_inner (all (a ∷ l))) refl
  where
    go : (b : Bool) → every is_inner (all (a ∷ l)) ≡ b → b ≡ true
    go true e = refl
    go false e = absurd (cc (sym (shown_tail is_inner (pick (every is_inner (all (a ∷ l))) Nothing (all (a ∷ l))) (a ∷ l)) ∙ h, ap (λ b. Unshown (pick b Nothing (all (a ∷ l)))) e))

inner_read : (ts : Stream) (l : List Attribute) (r : Stream) → parse_rule inner_attributes ts ≡ Some (inner_attributes_syntax l, r) → every is_inner (all l) ≡ true
inner_read ts l r e = inner_all l (inner_tail ts (inner_attributes_syntax l) r e)

-- OUTER ONES are known by their syntax where all are shown

abbrev before_others : Attribute → Syntax → Syntax
before_others a s = Node (Left (Both (syntax_of_Attribute a) s))

all_tail : (l : List Attribute) → tail (all_listed (all l)) ≡ Unshown Nothing
all_tail [] = refl
all_tail (a ∷ l) = all_tail l

outer_of : (l : List Attribute) → all_attributes_syntax l ≡ attributes_syntax l → every is_outer (all l) ≡ true
unfolding outer_listed
outer_of [] h = refl
outer_of (a ∷ l) h = go (every is_outer (all (a ∷ l))) refl
  where
    go : (b : Bool) → every is_outer (all (a ∷ l)) ≡ b → b ≡ true
    go true e = refl
    go false e = absurd (cc (sym (shown_tail is_outer (pick (every is_outer (all (a ∷ l))) Nothing (all (a ∷ l))) (a ∷ l)) ∙ ap tail (sym h) ∙ all_tail (a ∷ l), ap (λ b. Unshown (pick b Nothing (all (a ∷ l)))) e))

-- ONES AFTER OTHERS

first_both : (l m : List Attribute) → every is_outer (all l) ≡ true → outer_first (all (l ++ m)) ≡ outer_first (all m)
first_both [] m e = refl
first_both (a ∷ l) m e = go (is_outer (syntax_of_Attribute a)) (first_both l m) e
  where
    go : (c : Bool) → (every is_outer (all l) ≡ true → outer_first (all (l ++ m)) ≡ outer_first (all m)) → and c (every is_outer (all l)) ≡ true →
        pick c (outer_first (all (l ++ m))) (every is_inner (all (a ∷ (l ++ m)))) ≡ outer_first (all m)
    go true more k = more k
    go false more k = absurd (true≢false (sym k))

first_inner : (l : List Attribute) → every is_inner (all l) ≡ true → outer_first (all l) ≡ true
first_inner [] h = refl
first_inner (a ∷ l) h = go (is_outer (syntax_of_Attribute a)) (first_inner l) h
  where
    go : (b : Bool) → (every is_inner (all l) ≡ true → outer_first (all l) ≡ true) → and (no b) (every is_inner (all l)) ≡ true → pick b (outer_first (all l)) (and (no b) (every is_inner (all l))) ≡ true
    go true more k = absurd (true≢false (sym k))
    go false more k = k

-- of outer ones and inner ones those before a body are the outer ones
none_outer : (u : Syntax) (l : List Attribute) → every is_inner (all l) ≡ true → shown_before is_outer u (all l) ≡ Node (Right (Unshown u))
none_outer u [] h = refl
none_outer u (a ∷ l) h = go (is_outer (syntax_of_Attribute a)) (none_outer u l) h
  where
    go : (b : Bool) → (every is_inner (all l) ≡ true → shown_before is_outer u (all l) ≡ Node (Right (Unshown u))) → and (no b) (every is_inner (all l)) ≡ true →
        pick b (Node (Left (Both (syntax_of_Attribute a) (shown_before is_outer u (all l))))) (shown_before is_outer u (all l)) ≡ Node (Right (Unshown u))
    go true more k = absurd (true≢false (sym k))
    go false more k = more k

outer_shown : (l m : List Attribute) → every is_outer (all l) ≡ true → every is_inner (all m) ≡ true → shown_before is_outer Nothing (all (l ++ m)) ≡ shown_before is_outer Nothing (all l)
outer_shown [] m e h = none_outer Nothing m h
outer_shown (a ∷ l) m e h = go (is_outer (syntax_of_Attribute a)) (λ k. outer_shown l m k h) e
  where
    go : (c : Bool) → (every is_outer (all l) ≡ true → shown_before is_outer Nothing (all (l ++ m)) ≡ shown_before is_outer Nothing (all l)) → and c (every is_outer (all l)) ≡ true →
        pick c (before_others a (shown_before is_outer Nothing (all (l ++ m)))) (shown_before is_outer Nothing (all (l ++ m))) ≡ pick c (before_others a (shown_before is_outer Nothing (all l))) (shown_before is_outer Nothing (all l))
    go true more k = ap (before_others a) (more k)
    go false more k = absurd (true≢false (sym k))

pub outer_present_before : (ts : Stream) (l m : List Attribute) (r : Stream) → all_attributes_syntax l ≡ attributes_syntax l → parse_rule inner_attributes ts ≡ Some (inner_attributes_syntax m, r) →
    attributes_before_body (l ++ m) ≡ attributes_syntax l
unfolding listed_before outer_listed
outer_present_before ts l m r o i =
    let e = outer_of l o in
    let h = inner_read ts m r i in
    ap (λ b. shown_before is_outer (pick b Nothing (all (l ++ m))) (all (l ++ m))) (first_both l m e ∙ first_inner m h)
    ∙ outer_shown l m e h
    ∙ ap (λ b. shown_before is_outer (pick b Nothing (all l)) (all l)) (sym e)

-- and those in it the inner ones
inner_front : (l m : List Attribute) → every is_outer (all l) ≡ true → shown_before is_inner Nothing (all (l ++ m)) ≡ shown_before is_inner Nothing (all m)
inner_front [] m e = refl
inner_front (a ∷ l) m e = go (is_outer (syntax_of_Attribute a)) (inner_front l m) e
  where
    go : (c : Bool) → (every is_outer (all l) ≡ true → shown_before is_inner Nothing (all (l ++ m)) ≡ shown_before is_inner Nothing (all m)) → and c (every is_outer (all l)) ≡ true →
        pick (no c) (before_others a (shown_before is_inner Nothing (all (l ++ m)))) (shown_before is_inner Nothing (all (l ++ m))) ≡ shown_before is_inner Nothing (all m)
    go true more k = more k
    go false more k = absurd (true≢false (sym k))

pub inner_present_inside : (ts : Stream) (l m : List Attribute) (r : Stream) → all_attributes_syntax l ≡ attributes_syntax l → parse_rule inner_attributes ts ≡ Some (inner_attributes_syntax m, r) →
    parse_rule inner_attributes ts ≡ Some (attributes_in_body (l ++ m), r)
unfolding listed_inside inner_listed
inner_present_inside ts l m r o i =
    let h = inner_read ts m r i in
    i ∙ ap (λ s. Some (s, r)) (ap (λ b. shown_before is_inner (pick b Nothing (all m)) (all m)) h ∙ sym (inner_front l m (outer_of l o)))

-- IN BRACES, after the attributes, the rest is read to the end

after_closed : (d : Delimiter) (g : Opened) (f : Syntax → Syntax) (o : Out) → close d g (wrap f o) ≡ close d g (wrap f (whole_only o))
after_closed d g f None = refl
after_closed d g f (Some p) = go (is_end p.1) refl
  where
    go : (b : Bool) → is_end p.1 ≡ b → close d g (Some (f p.0, p.1)) ≡ close d g (wrap f (only b (Some p)))
    go true e = refl
    go false e = ap (λ b. only b (Some (Group d g.opening g.closing (f p.0), g.rest))) e

abbrev to_end : Rule → Parser
to_end k m = whole_only (parse_rule k m)

after_attributes : (k : Rule) (o : Option Opened) → within Brace o (λ i. and_then (parse_rule inner_attributes i) (parse_rule k)) ≡ within Brace o (λ i. and_then (parse_rule inner_attributes i) (to_end k))
after_attributes k None = refl
after_attributes k (Some g) = go (parse_rule inner_attributes g.content)
  where
    go : (o : Out) → close Brace g (and_then o (parse_rule k)) ≡ close Brace g (and_then o (to_end k))
    go None = refl
    go (Some p) = after_closed Brace g (Both p.0) (parse_rule k p.1)

pub body_read : (ts : Stream) → parse_rule body ts ≡ wrap Node (within Brace (take_group Brace ts) (λ i. and_then (parse_rule inner_attributes i) (to_end statements)))
body_read ts = body_is ts ∙ ap (wrap Node) (after_attributes statements (take_group Brace ts))

pub items_read : (ts : Stream) → parse_form (inside Brace (rule inner_attributes & rule items)) ts ≡ within Brace (take_group Brace ts) (λ i. and_then (parse_rule inner_attributes i) (to_end items))
items_read ts = after_attributes items (take_group Brace ts)
