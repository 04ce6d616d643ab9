-- What is written on a course by a guess, for proofs alone: of a guess that its tokens are stored verbatim, and of one that they are not and
-- how an impl's generics without parameters are printed. One of the guesses is right; after a wrong one nothing is known.
use Rattle.std.proofs.Common.{◌≡◌, Bool, true, false, Option, Some, None}
use Rattle.syn_grammar.specs.Tokens.{Stream, end, pick, at_generics}
use Rattle.syn_grammar.specs.Rules.{for_self_type, statements}
use Rattle.syn_grammar.specs.Grammar.{Grammar, rule, empty}
use Rattle.syn_grammar.specs.Take.{sees}
use Rattle.syn_grammar.specs.Leads.{leads_on}
use Rattle.syn_recognize.specs.Written.{Written, adds, drops}
use Rattle.syn_recognize.specs.Copies.{Copy, Reached, Refused, Stuck, next, copy_form}
use Rattle.syn_recognize.specs.Course.{Course, reads, turns, rooted, followed, rest, kept, lists, led, self_type}
use Rattle.syn_recognize.specs.Courses.{by_roots, no_parameters, printed_generics, shown_generics, trees_in_braces, written_generics}
use Rattle.syn_recognize.specs.declared.plan.Planned.{Planned}
use Rattle.syn_recognize.specs.declared.plan.Planned.TheVariants as Planned-m

-- the second is the first, unless a guess was wrong
abbrev pub Leads : Copy → Copy → Type 0
Leads a (Reached w ts) = a ≡ Reached w ts
Leads a Refused = a ≡ Refused
Leads a Stuck = Unit {0}

pub leads_same : (a b : Copy) → a ≡ b → Leads a b
leads_same a (Reached w ts) e = e
leads_same a Refused e = e
leads_same a Stuck e = tt

-- what is written where there are no parameters, by a guess of `< >`
abbrev pub guessed_generics : Bool → Stream
guessed_generics x = pick x written_generics end

-- WHERE THE GUESS IS that all is stored verbatim
abbrev pub copy_kept : Course → Written → Stream → Copy
copy_kept (reads g d) w ts = next (copy_form g w ts) (copy_kept d)
copy_kept (turns c d e) w ts = pick (sees c ts) (copy_kept d w ts) (copy_kept e w ts)
copy_kept (rooted d e) w ts = next (copy_form trees_in_braces w ts) (by_roots ts (copy_kept d) (copy_kept e))
copy_kept (followed d g) w ts = copy_kept d w ts
copy_kept (rest g) w ts = Stuck
copy_kept (kept g) w ts = copy_form g w ts
copy_kept (lists d) w ts = next (copy_form shown_generics w ts) (copy_kept d)
copy_kept (led d) w ts = copy_kept d w ts
copy_kept (self_type d) w ts = next (copy_form (rule for_self_type) w ts) (copy_kept d)

-- WHERE THE GUESS IS that it is not. Of an impl's generics without parameters it may be guessed whether `< >` is printed (none: they are
-- shown, or the guess is settled).

-- a guess is settled at the end: generics would be read nowhere
abbrev pub settled : Option Bool → Copy → Copy
settled (Some true) o = Stuck
settled (Some false) o = o
settled None o = o

-- generics would be read there, or not
abbrev pub led_by : Option Bool → Bool → (Option Bool → Copy) → Copy
led_by None z q = q None
led_by (Some x) true q = pick x (q None) Stuck
led_by (Some x) false q = q (Some x)

-- generics whose parameters are guessed, and what follows
abbrev pub guessed_lists : Bool → Bool → (Option Bool → Written → Stream → Copy) → Written → Stream → Copy
guessed_lists true x q w ts = next (copy_form printed_generics w ts) (λ v r. q (Some x) (adds v (guessed_generics x)) r)
guessed_lists false x q w ts = next (copy_form printed_generics w ts) (q None)

abbrev pub copy_course : Course → Option Bool → Written → Stream → Copy
copy_course (reads g d) l w ts = next (copy_form g w ts) (copy_course d l)
copy_course (turns c d e) l w ts = pick (sees c ts) (copy_course d l w ts) (copy_course e l w ts)
copy_course (rooted d e) l w ts = next (copy_form trees_in_braces w ts) (by_roots ts (copy_course d l) (copy_course e l))
copy_course (followed d g) l w ts = next (copy_course d l w ts) (copy_form g)
copy_course (rest g) l w ts = settled l (copy_form g w ts)
copy_course (kept g) l w ts = pick (drops w) (copy_form g w ts) Stuck
copy_course (lists d) None w ts = next (copy_form shown_generics w ts) (copy_course d None)
copy_course (lists d) (Some x) w ts = guessed_lists (no_parameters ts) x (copy_course d) w ts
copy_course (led d) l w ts = led_by l (sees at_generics ts) (λ m. copy_course d m w ts)
copy_course (self_type d) l w ts = led_by l (leads_on ts) (λ m. next (copy_form (rule for_self_type) w ts) (copy_course d m))

-- whether they are printed as `< >` is guessed where trees are written as they are printed, and only there
abbrev pub Fair : Bool → Option Bool → Type 0
Fair true None = ⊥
Fair true (Some x) = Unit {0}
Fair false None = Unit {0}
Fair false (Some x) = ⊥

-- by a guess
abbrev pub copy_way : Bool → Course → Option Bool → Written → Stream → Copy
copy_way true d l w ts = copy_kept d w ts
copy_way false d l w ts = copy_course d l w ts

-- what follows an item that a plan reads
abbrev pub after_form : Planned → Grammar
after_form Planned-m.Statements = rule statements
after_form _ = empty
