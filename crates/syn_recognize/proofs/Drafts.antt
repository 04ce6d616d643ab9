-- What is written on a course while its end decides how, by its first step.
use Rattle.std.proofs.Common.{◌≡◌, Box, Global, Bool, true, false, Option, Some, None, refl, sym, ap, ap₂, ◌∙◌}
use Rattle.syn_grammar.specs.Tokens.{Stream, Look, pick, at_generics}
use Rattle.syn_grammar.specs.Words.{w_for}
use Rattle.syn_grammar.specs.Grammar.{word, Syntax, Grammar, empty, rule}
use Rattle.syn_grammar.specs.Rules.{for_self_type}
use Rattle.syn_grammar.specs.Leads.{generics_after, leads_on}
use Rattle.syn_grammar.specs.Take.{sees, take_token}
use Rattle.syn_recognize.specs.Written.{Written, adds, unwritten}
use Rattle.syn_recognize.specs.Copies.{Copy, Reached, next, capturing, joining, copy_form}
use Rattle.syn_recognize.specs.Course.{Course, reads, turns, rooted, followed, rest, kept, lists, led, self_type}
use Rattle.syn_recognize.specs.Courses.{copy_aside, copy_begun, copy_draft, decided, head_of, joined, no_parameters, printed_lists, by_roots, trees_in_braces, shown_generics, impl_parameters, written_generics}
use Rattle.syn_recognize.proofs.Copied.{when_is, empty_is}
use Rattle.syn_recognize.specs.declared.draft.Begun.{Begun}
use Rattle.syn_recognize.specs.declared.draft.Draft.{Draft}

pub reads_is : (x : Draft) (g : Grammar) (d : Course) (w : Written) (ts : Stream) → copy_draft x (reads g d) w ts ≡ next (copy_form g w ts) (copy_draft x d)
reads_is x g d w ts = go x.begun
  where
    go : (o : Option Begun) → copy_begun o (head_of x.head) (reads g d) w ts ≡ next (copy_form g w ts) (copy_begun o (head_of x.head) d)
    go None = refl
    go (Some o) = refl

pub turns_is : (x : Draft) (c : Look) (d e : Course) (w : Written) (ts : Stream) → copy_draft x (turns c d e) w ts ≡ pick (sees c ts) (copy_draft x d w ts) (copy_draft x e w ts)
turns_is x c d e w ts = go x.begun
  where
    go : (o : Option Begun) → copy_begun o (head_of x.head) (turns c d e) w ts ≡ pick (sees c ts) (copy_begun o (head_of x.head) d w ts) (copy_begun o (head_of x.head) e w ts)
    go None = refl
    go (Some o) = refl

pub rooted_is : (x : Draft) (d e : Course) (w : Written) (ts : Stream) → copy_draft x (rooted d e) w ts ≡ next (copy_form trees_in_braces w ts) (by_roots ts (copy_draft x d) (copy_draft x e))
rooted_is x d e w ts = go x.begun
  where
    go : (o : Option Begun) → copy_begun o (head_of x.head) (rooted d e) w ts ≡ next (copy_form trees_in_braces w ts) (by_roots ts (copy_begun o (head_of x.head) d) (copy_begun o (head_of x.head) e))
    go None = refl
    go (Some o) = refl

pub followed_is : (x : Draft) (d : Course) (g : Grammar) (w : Written) (ts : Stream) → copy_draft x (followed d g) w ts ≡ next (copy_draft x d w ts) (copy_form g)
followed_is x d g w ts = go x.begun
  where
    go : (o : Option Begun) → copy_begun o (head_of x.head) (followed d g) w ts ≡ next (copy_begun o (head_of x.head) d w ts) (copy_form g)
    go None = refl
    go (Some o) = refl

-- THE END

pub rest_is : (x : Draft) (g : Grammar) (w : Written) (ts : Stream) → copy_draft x (rest g) w ts ≡ next (joined x.begun (head_of x.head) w ts) (copy_form g)
rest_is x g w ts = go x.begun
  where
    go : (o : Option Begun) → copy_begun o (head_of x.head) (rest g) w ts ≡ next (joined o (head_of x.head) w ts) (copy_form g)
    go None = refl
    go (Some o) = refl

pub none_begun : (x : Draft) (w : Written) (ts : Stream) → x.begun ≡ None → joined x.begun (head_of x.head) w ts ≡ Reached w ts
none_begun x w ts e = ap (λ o. joined o (head_of x.head) w ts) e

pub begun_alone : (x : Draft) (o : Begun) (w : Written) (ts : Stream) → x.begun ≡ Some o → x.head ≡ None → joined x.begun (head_of x.head) w ts ≡ joining o.before.value w ts
begun_alone x o w ts e f = ap₂ (λ o h. joined o (head_of h) w ts) e f

pub begun_headed : (x : Draft) (o : Begun) (h : Box Written Global) (w : Written) (ts : Stream) → x.begun ≡ Some o → x.head ≡ Some h → joined x.begun (head_of x.head) w ts ≡ next (joining h.value w ts) (joining o.before.value)
begun_headed x o h w ts e f = ap₂ (λ o h. joined o (head_of h) w ts) e f

pub kept_dropped : (x : Draft) (g : Grammar) (w : Written) (ts : Stream) → x.begun ≡ None → copy_draft x (kept g) w ts ≡ copy_form g w ts
kept_dropped x g w ts e = ap (λ o. copy_begun o (head_of x.head) (kept g) w ts) e

pub kept_aside : (x : Draft) (o : Begun) (g : Grammar) (w : Written) (ts : Stream) → x.begun ≡ Some o → copy_draft x (kept g) w ts ≡ next (copy_form g unwritten ts) (capturing o.before.value o.begin)
kept_aside x o g w ts e = ap (λ b. copy_begun b (head_of x.head) (kept g) w ts) e

-- IMPLS

pub lists_dropped : (x : Draft) (d : Course) (w : Written) (ts : Stream) → x.begun ≡ None → copy_draft x (lists d) w ts ≡ next (copy_form shown_generics w ts) (copy_draft x d)
lists_dropped x d w ts e = ap (λ o. copy_begun o (head_of x.head) (lists d) w ts) e ∙ sym (ap (λ o. next (copy_form shown_generics w ts) (copy_begun o (head_of x.head) d)) e)

pub lists_shown : (x : Draft) (d : Course) (w : Written) (ts : Stream) → w.printing ≡ false → copy_draft x (lists d) w ts ≡ next (copy_form shown_generics w ts) (copy_draft x d)
lists_shown x d w ts e = go x.begun
  where
    go : (o : Option Begun) → copy_begun o (head_of x.head) (lists d) w ts ≡ next (copy_form shown_generics w ts) (copy_begun o (head_of x.head) d)
    go None = refl
    go (Some o) = ap (λ a. pick a (printed_lists (no_parameters ts) (copy_aside o.before.value o.begin d) (head_of x.head) w ts) (next (copy_form shown_generics w ts) (copy_aside o.before.value o.begin d (head_of x.head)))) e

pub lists_printed : (x : Draft) (o : Begun) (d : Course) (w : Written) (ts : Stream) → x.begun ≡ Some o → w.printing ≡ true →
    copy_draft x (lists d) w ts ≡ printed_lists (no_parameters ts) (λ h. copy_begun x.begun h d) (head_of x.head) w ts
lists_printed x o d w ts e f =
    ap (λ b. copy_begun b (head_of x.head) (lists d) w ts) e
    ∙ ap (λ a. pick a (printed_lists (no_parameters ts) (copy_aside o.before.value o.begin d) (head_of x.head) w ts) (next (copy_form shown_generics w ts) (copy_aside o.before.value o.begin d (head_of x.head)))) f
    ∙ sym (ap (λ b. printed_lists (no_parameters ts) (λ h. copy_begun b h d) (head_of x.head) w ts) e)

pub led_is : (x : Draft) (d : Course) (w : Written) (ts : Stream) → copy_draft x (led d) w ts ≡ decided x.begun (head_of x.head) (sees at_generics ts) (λ o h. copy_begun o h d) w ts
led_is x d w ts = go x.begun
  where
    go : (o : Option Begun) → copy_begun o (head_of x.head) (led d) w ts ≡ decided o (head_of x.head) (sees at_generics ts) (λ o h. copy_begun o h d) w ts
    go None = refl
    go (Some o) = refl

pub self_type_is : (x : Draft) (d : Course) (w : Written) (ts : Stream) →
    copy_draft x (self_type d) w ts ≡ decided x.begun (head_of x.head) (leads_on ts) (λ o h v r. next (copy_form (rule for_self_type) v r) (copy_begun o h d)) w ts
self_type_is x d w ts = go x.begun
  where
    go : (o : Option Begun) → copy_begun o (head_of x.head) (self_type d) w ts ≡ decided o (head_of x.head) (leads_on ts) (λ o h v r. next (copy_form (rule for_self_type) v r) (copy_begun o h d)) w ts
    go None = refl
    go (Some o) = refl

-- whether generics without parameters are printed as `< >`
module _ (g : Draft) (z : Bool) (w : Written) (ts : Stream) (q : Option Begun → Option Written → Written → Stream → Copy) where
  abbrev now_decided : Copy
  now_decided = decided g.begun (head_of g.head) z q w ts

  pub nothing_open : g.head ≡ None → now_decided ≡ q g.begun None w ts
  nothing_open e = ap (λ h. decided g.begun (head_of h) z q w ts) e ∙ go g.begun
    where
      go : (o : Option Begun) → decided o None z q w ts ≡ q o None w ts
      go None = refl
      go (Some o) = refl

  pub all_dropped : g.begun ≡ None → now_decided ≡ q None (head_of g.head) w ts
  all_dropped e = ap (λ o. decided o (head_of g.head) z q w ts) e

  pub none_led : z ≡ false → now_decided ≡ q g.begun (head_of g.head) w ts
  none_led e = ap (λ z. decided g.begun (head_of g.head) z q w ts) e ∙ go g.begun (head_of g.head)
    where
      go : (o : Option Begun) (h : Option Written) → decided o h false q w ts ≡ q o h w ts
      go None h = refl
      go (Some o) None = refl
      go (Some o) (Some h) = refl

  pub some_led : (o : Begun) (h : Box Written Global) → g.begun ≡ Some o → g.head ≡ Some h → z ≡ true → now_decided ≡ next (joining (adds h.value written_generics) w ts) (q (Some o) None)
  some_led o h e f k = ap₂ (λ o h. decided o (head_of h) z q w ts) e f ∙ ap (λ z. decided (Some o) (Some h.value) z q w ts) k

pub generics_present : (w : Written) (ts : Stream) → sees at_generics ts ≡ true → copy_form shown_generics w ts ≡ copy_form impl_parameters w ts
generics_present w ts e = when_is at_generics impl_parameters empty w ts ∙ ap (λ v. pick v (copy_form impl_parameters w ts) (copy_form empty w ts)) e

pub generics_lack : (w : Written) (ts : Stream) → sees at_generics ts ≡ false → copy_form shown_generics w ts ≡ Reached w ts
generics_lack w ts e = when_is at_generics impl_parameters empty w ts ∙ ap (λ v. pick v (copy_form impl_parameters w ts) (copy_form empty w ts)) e ∙ empty_is w ts

-- after `for`
pub for_led : (ts r : Stream) (s : Syntax) → take_token (word w_for) ts ≡ Some (s, r) → leads_on ts ≡ sees at_generics r
for_led ts r s e = ap generics_after e

pub for_lacks : (ts : Stream) → take_token (word w_for) ts ≡ None → leads_on ts ≡ false
for_lacks ts e = ap generics_after e
