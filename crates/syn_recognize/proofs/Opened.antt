-- What a rule reads where the next token is known.
use Rattle.std.proofs.Common.{◌≡◌, ℕ, zero, suc, Bool, true, false, List, [], ◌∷◌, ◌++◌, ◌+◌, ◌-◌, arith, refl, sym, ap, ap₂, subst, ◌∙◌}
use Rattle.syn_grammar.specs.Tokens.{Stream, Look, Paren, Brace, Bracket, pick}
use Rattle.syn_grammar.specs.Rules.{type, type_arguments, type_path, type_words, more_type_words, path_as_type, Rule, attributes, unary, unary_head, primary, primary_head, literal_fields, path_as_expression, expression_path, expression_words, expressions, array_content, macro_invocation, postfixes}
use Rattle.syn_grammar.specs.Grammar.{any_literal, name_or, Grammar, empty, token, inside, ◌&◌, when◌then◌else◌, rule, shaped, unshown, among}
use Rattle.syn_grammar.specs.Table.{table, at_any_literal, at_arguments, at_brace, at_macro}
use Rattle.syn_grammar.specs.Take.{sees}
use Rattle.syn_grammar.specs.Run.{parse_form}
use Rattle.syn_grammar.specs.Shape.{fields, untagged}
use Rattle.syn_grammar.specs.Words.{w_Self_type}
use Rattle.syn_grammar.specs.Take.{Parser}
use Rattle.syn_parse.specs.Firsts.{Begins}
use Rattle.syn_parse.specs.declared.buffer.first.First.{First}
use Rattle.syn_parse.specs.declared.buffer.first.First.TheVariants as F
use Rattle.syn_tokens.specs.declared.delimiter.Delimiter.{Delimiter}
use Rattle.syn_tokens.specs.declared.delimiter.Delimiter.TheVariants as D
use Rattle.syn_recognize.specs.May.{may, sure}
use Rattle.syn_recognize.specs.Written.{Written}
use Rattle.syn_recognize.specs.Copies.{copied, next, copy_form}
use Rattle.syn_recognize.specs.Ladder.{loud, climb, Rung}
use Rattle.syn_recognize.specs.Within.{second}
use Rattle.syn_recognize.specs.Opens.{Opens, both, either_way, pruned}
use Rattle.syn_recognize.proofs.Copied.{empty_is, unshown_is, rule_is, shaped_is, then_is, when_is}
use Rattle.syn_recognize.proofs.May.{never, surely}
use Rattle.syn_recognize.specs.Steps.{Proceeds}
use Rattle.syn_recognize.specs.declared.step.Step.{Step}
use Rattle.syn_recognize.specs.declared.step.Step.TheVariants as Step-m
use Rattle.syn_recognize.proofs.Todo.{goes_here, goes_first}
use Rattle.syn_recognize.proofs.Ladder.{silent, climbs}

abbrev Same : Grammar → Grammar → Stream → Type 0
Same g h ts = (w : Written) → copy_form g w ts ≡ copy_form h w ts

both_is : (g h p : Grammar) (ts : Stream) → Same p h ts → (w : Written) → copy_form (both g h p) w ts ≡ next (copy_form g w ts) (copy_form h)
both_is empty h p ts e w = e w ∙ sym (ap (λ o. next o (copy_form h)) (empty_is w ts))
both_is unshown h p ts e w = e w ∙ sym (ap (λ o. next o (copy_form h)) (unshown_is w ts))
both_is g h p ts e w = then_is g h w ts

-- the first of two forms may be another that is read alike here
both_same : (a g h p : Grammar) (ts : Stream) → Same a g ts → Same p h ts → Same (both a h p) (g & h) ts
both_same a g h p ts e i w = both_is a h p ts i w ∙ ap (λ o. next o (copy_form h)) (e w) ∙ sym (then_is g h w ts)

either_same : (d b : Bool) (c : Look) (a g p h : Grammar) (ts : Stream) → (d ≡ true → sees c ts ≡ true) → (b ≡ false → sees c ts ≡ false) → Same a g ts → Same p h ts → Same (either_way d b c a p) (when c then g else h) ts
either_same true b c a g p h ts y n e i w = e w ∙ sym (when_is c g h w ts ∙ ap (λ z. pick z (copy_form g w ts) (copy_form h w ts)) (y refl))
either_same false true c a g p h ts y n e i w = when_is c a p w ts ∙ ap₂ (pick (sees c ts)) (e w) (i w) ∙ sym (when_is c g h w ts)
either_same false false c a g p h ts y n e i w = i w ∙ sym (when_is c g h w ts ∙ ap (λ b. pick b (copy_form g w ts) (copy_form h w ts)) (n refl))

pick_same : (b : Bool) (a : Grammar) (k : Rule) (ts : Stream) → Same a (table k) ts → Same (pick b a (rule k)) (rule k) ts
pick_same true a k ts e w = e w ∙ sym (rule_is k (table k) w ts refl)
pick_same false a k ts e w = refl

pub pruned_is : (ks : List Rule) (n : ℕ) (f : First) (g : Grammar) (ts : Stream) → Begins f ts → Same (pruned ks n f g) g ts
pruned_is ks zero f g ts b w = refl
pruned_is ks (suc n) f (when c then g else h) ts b w = either_same (sure c f) (may c f) c (pruned ks n f g) g (pruned ks n f h) h ts (surely c f ts b) (never c f ts b) (pruned_is ks n f g ts b) (pruned_is ks n f h ts b) w
pruned_is ks (suc n) f (shaped j g) ts b w = pruned_is ks n f g ts b w ∙ sym (shaped_is j g w ts)
pruned_is ks (suc n) f (g & h) ts b w = both_same (pruned ks n f g) g h (pruned ks n f h) ts (pruned_is ks n f g ts b) (pruned_is ks n f h ts b) w
pruned_is ks (suc n) f (rule k) ts b w = pick_same (among k ks) (pruned ks n f (table k)) k ts (pruned_is ks n f (table k) ts b) w
pruned_is ks (suc n) f g ts b w = refl

-- GOING DOWN A RULE

pub goes_opened : (l : List Step) (f : First) (g : Grammar) (k : Rule) (w : Written) (ts : Stream) → Opens f g k → Begins f ts → Proceeds l (copy_form (rule k) w ts) l g w ts
unfolding Opens
goes_opened l f g k w ts h b = goes_here l (copy_form (rule k) w ts) g w ts (h w ts b)

-- one that is a unary level and so many levels after it, which are deferred
pub started : (l m : List Step) (f : First) (i k : Rule) (b c j : ℕ) (u : Grammar) (w : Written) (ts : Stream) → Rung i b k j → c ≡ b + j → Opens f u i → Begins f ts → m ≡ l ++ Step-m.Levels b c ∷ [] → Proceeds l (copy_form (rule k) w ts) m u w ts
unfolding Opens
started l m f i k b c j u w ts h q o a p =
    let s : c - b ≡ j = omega (arith, q) in
    subst (λ (x : List Step). Proceeds l (copy_form (rule k) w ts) x u w ts) (sym p)
    (goes_first l (Step-m.Levels b c) (copy_form (rule k) w ts) u w ts (climbs i b k j u w ts h (o w ts a) ∙ sym (ap (λ n. next (copy_form u w ts) (climb n b)) s)))

-- WHAT OPERANDS BEGIN WITH

-- the rules that an operand begins with
abbrev pub beginnings : List Rule
beginnings = unary ∷ attributes ∷ primary ∷ path_as_expression ∷ expression_path ∷ []

pub opens_pruned : (ks : List Rule) (f : First) (g : Grammar) (k : Rule) → g ≡ pruned ks 30 f (rule k) → Opens f g k
unfolding Opens
opens_pruned ks f g k e = λ w ts b. sym (pruned_is ks 30 f (rule k) ts b w) ∙ sym (ap (λ h. copy_form h w ts) e)

pub opens_rule : (f : First) (g : Grammar) (k : Rule) → parse_form g ≡ parse_form (table k) → Opens f g k
unfolding Opens
opens_rule f g k e = λ w ts b. rule_is k g w ts e

pub opens_silent : (f : First) (k : Rule) → loud (table k) f ≡ false → Opens f empty k
unfolding Opens
opens_silent f k e = λ w ts b. rule_is k (table k) w ts refl ∙ silent (table k) f w ts b e ∙ sym (empty_is w ts)

-- a path, and the fields of a struct literal after it
abbrev pub path_with_fields : Grammar
path_with_fields = rule expression_words & (when at_brace then shaped fields (inside Brace (rule literal_fields)) else empty)

abbrev pub name_form : Grammar
name_form = (when at_macro then rule macro_invocation else path_with_fields) & rule postfixes

pub name_opens : (f : First) → f ≡ F.Name → Opens f name_form unary
name_opens f e = subst (λ z. Opens z name_form unary) (sym e) (opens_pruned beginnings F.Name name_form unary refl)

abbrev pub literal_form : Grammar
literal_form = (when at_any_literal then (token [] any_literal) else path_with_fields) & rule postfixes

pub literal_opens : (f : First) → f ≡ F.Literal → Opens f literal_form unary
literal_opens f e = subst (λ z. Opens z literal_form unary) (sym e) (opens_pruned beginnings F.Literal literal_form unary refl)

abbrev pub parentheses_form : Grammar
parentheses_form = inside Paren (rule expressions) & rule postfixes

pub parentheses_open : (d : Delimiter) → d ≡ D.Paren → Opens (F.Group d) parentheses_form unary
parentheses_open d e = subst (λ z. Opens (F.Group z) parentheses_form unary) (sym e) (opens_pruned beginnings (F.Group D.Paren) parentheses_form unary refl)

abbrev pub brackets_form : Grammar
brackets_form = inside Bracket (rule array_content) & rule postfixes

pub brackets_open : (d : Delimiter) → d ≡ D.Bracket → Opens (F.Group d) brackets_form unary
brackets_open d e = subst (λ z. Opens (F.Group z) brackets_form unary) (sym e) (opens_pruned beginnings (F.Group D.Bracket) brackets_form unary refl)

abbrev pub keyword_form : Grammar
keyword_form = rule primary & rule postfixes

pub keyword_opens : (f : First) → f ≡ F.Keyword → Opens f keyword_form unary
keyword_opens f e = subst (λ z. Opens z keyword_form unary) (sym e) (opens_pruned (unary ∷ attributes ∷ []) F.Keyword keyword_form unary refl)

-- and in heads
abbrev pub head_beginnings : List Rule
head_beginnings = unary_head ∷ attributes ∷ primary_head ∷ path_as_expression ∷ expression_path ∷ []

abbrev pub head_name_form : Grammar
head_name_form = (when at_macro then rule macro_invocation else rule expression_words) & rule postfixes

pub head_name_opens : (f : First) → f ≡ F.Name → Opens f head_name_form unary_head
head_name_opens f e = subst (λ z. Opens z head_name_form unary_head) (sym e) (opens_pruned head_beginnings F.Name head_name_form unary_head refl)

abbrev pub head_literal_form : Grammar
head_literal_form = (when at_any_literal then (token [] any_literal) else rule expression_words) & rule postfixes

pub head_literal_opens : (f : First) → f ≡ F.Literal → Opens f head_literal_form unary_head
head_literal_opens f e = subst (λ z. Opens z head_literal_form unary_head) (sym e) (opens_pruned head_beginnings F.Literal head_literal_form unary_head refl)

pub head_parentheses_open : (d : Delimiter) → d ≡ D.Paren → Opens (F.Group d) parentheses_form unary_head
head_parentheses_open d e = subst (λ z. Opens (F.Group z) parentheses_form unary_head) (sym e) (opens_pruned head_beginnings (F.Group D.Paren) parentheses_form unary_head refl)

pub head_brackets_open : (d : Delimiter) → d ≡ D.Bracket → Opens (F.Group d) brackets_form unary_head
head_brackets_open d e = subst (λ z. Opens (F.Group z) brackets_form unary_head) (sym e) (opens_pruned head_beginnings (F.Group D.Bracket) brackets_form unary_head refl)

abbrev pub head_keyword_form : Grammar
head_keyword_form = rule primary_head & rule postfixes

pub head_keyword_opens : (f : First) → f ≡ F.Keyword → Opens f head_keyword_form unary_head
head_keyword_opens f e = subst (λ z. Opens z head_keyword_form unary_head) (sym e) (opens_pruned (unary_head ∷ attributes ∷ []) F.Keyword head_keyword_form unary_head refl)

-- WHAT TYPES AND THEIR WORDS BEGIN WITH

pub opens_as_pruned : (ks : List Rule) (f : First) (g : Grammar) (k : Rule) → parse_form g ≡ parse_form (pruned ks 30 f (rule k)) → Opens f g k
unfolding Opens copy_form
opens_as_pruned ks f g k e = λ w ts b. sym (pruned_is ks 30 f (rule k) ts b w) ∙ sym (ap (λ (p : Parser). copied w (p ts)) e)

-- in so many steps
pub opens_so_far : (ks : List Rule) (n : ℕ) (f : First) (g : Grammar) (k : Rule) → parse_form g ≡ parse_form (pruned ks n f (rule k)) → Opens f g k
unfolding Opens copy_form
opens_so_far ks n f g k e = λ w ts b. sym (pruned_is ks n f (rule k) ts b w) ∙ sym (ap (λ (p : Parser). copied w (p ts)) e)

-- one that is read as the form of another rule, which alone is left of it there
pub opens_through : (ks : List Rule) (f : First) (g : Grammar) (j k : Rule) → pruned ks 30 f (rule k) ≡ rule j → parse_form g ≡ parse_form (table j) → Opens f g k
unfolding Opens
opens_through ks f g j k e h = λ w ts b. sym (pruned_is ks 30 f (rule k) ts b w) ∙ ap (λ p. copy_form p w ts) e ∙ rule_is j g w ts h

abbrev pub words_form : Grammar
words_form = (token [] (name_or (w_Self_type ∷ [])) & shaped untagged (when at_arguments then (rule type_arguments) else empty)) & second (table type_words)

pub type_opens : (f : First) → f ≡ F.Name → Opens f words_form type
type_opens f e = subst (λ z. Opens z words_form type) (sym e) (opens_as_pruned (type ∷ path_as_type ∷ type_path ∷ type_words ∷ []) F.Name words_form type refl)

pub words_open : (f : First) → f ≡ F.Name → Opens f words_form type_words
words_open f e = subst (λ z. Opens z words_form type_words) (sym e) (opens_as_pruned (type_words ∷ []) F.Name words_form type_words refl)

pub more_words_open : (f : First) → f ≡ F.Name → Opens f words_form more_type_words
more_words_open f e = subst (λ z. Opens z words_form more_type_words) (sym e) (opens_as_pruned (more_type_words ∷ []) F.Name words_form more_type_words refl)
