-- WHAT IS WRITTEN ON A COURSE. Its end decides whether all is stored verbatim, and how an impl's generics without parameters are printed.
use Rattle.std.specs.Prelude.{◌≡◌, Bool, true, false, Box, Option, Some, None, Result, Ok, Err}
use Rattle.std.specs.Global.{Global}
use Rattle.syn_grammar.specs.Words.{less}
use Rattle.syn_grammar.specs.Tokens.{Stream, end, punct, Brace, call_site, pick, at_generics}
use Rattle.syn_grammar.specs.Rules.{for_self_type, rooted_trees}
use Rattle.syn_grammar.specs.Grammar.{Grammar, rule, empty, inside, ordered, vanishing, at_row_end, when◌then◌else◌}
use Rattle.syn_grammar.specs.Take.{Out, before, sees, take_mark}
use Rattle.syn_grammar.specs.DecidedByTokens.{roots}
use Rattle.syn_grammar.specs.Leads.{leads_on}
use Rattle.syn_recognize.specs.Forms.{grammar_of}
use Rattle.syn_recognize.specs.Names.{look_of}
use Rattle.syn_recognize.specs.Ordered.{first_form, other_form}
use Rattle.syn_recognize.specs.declared.list.List.TheVariants as List-m
use Rattle.syn_recognize.specs.Written.{Written, adds, blank, unwritten}
use Rattle.syn_recognize.specs.Copies.{Copy, Reached, Refused, next, capturing, joining, copy_form}
use Rattle.syn_recognize.specs.Course.{Course, reads, turns, rooted, followed, rest, kept, lists, led, self_type}
use Rattle.syn_recognize.specs.Stages.{stage_course}
use Rattle.syn_recognize.specs.declared.draft.Begun.{Begun}
use Rattle.syn_recognize.specs.declared.draft.Draft.{Draft}
use Rattle.syn_recognize.specs.declared.plan.Plan.{Plan}
use Rattle.syn_recognize.specs.declared.plan.Plan.TheVariants as Plan-m

abbrev pub course_of : Plan → Course
course_of (Plan-m.Go s) = stage_course s
course_of (Plan-m.Reads' f p d) = reads (grammar_of f.now) (course_of d)
course_of (Plan-m.Turns' c p d q e) = turns (look_of c) (course_of d) (course_of e)
course_of (Plan-m.Rooted' p d q e) = rooted (course_of d) (course_of e)
course_of (Plan-m.Then' p d f) = followed (course_of d) (grammar_of f.now)
course_of (Plan-m.Rest f) = rest (grammar_of f.now)
course_of (Plan-m.Kept f) = kept (grammar_of f.now)
course_of (Plan-m.Lists' p d) = lists (course_of d)
course_of (Plan-m.Led' p d) = led (course_of d)
course_of (Plan-m.SelfType' p d) = self_type (course_of d)

-- TREES OF A USE IN BRACES

abbrev pub trees_in_braces : Grammar
trees_in_braces = inside Brace (rule rooted_trees)

-- one of two ways, by whether one of the trees read from there on has `::` before it
abbrev pub by_roots : Stream → (Written → Stream → Copy) → (Written → Stream → Copy) → Written → Stream → Copy
by_roots ts p q w r = pick (roots false (before ts r)) (p w r) (q w r)

-- THE GENERICS OF AN IMPL

abbrev pub impl_parameters : Grammar
impl_parameters = ordered (first_form List-m.Parameters) (other_form List-m.Parameters)

-- as they are shown
abbrev pub shown_generics : Grammar
shown_generics = when at_generics then impl_parameters else empty

-- as they are printed, but for `< >` of those without parameters
abbrev pub printed_generics : Grammar
printed_generics = vanishing false at_generics impl_parameters

-- there are no parameters: no generics are next, or `<` followed by `>`
abbrev pub ends_next : Out → Bool
ends_next (Some p) = sees at_row_end p.1
ends_next None = false

abbrev pub no_parameters : Stream → Bool
no_parameters ts = pick (sees at_generics ts) (ends_next (take_mark less ts)) true

-- `< >`
abbrev pub written_generics : Stream
written_generics = punct 60 false call_site (punct 62 false call_site end)

-- WHERE THE OUTPUT IS DROPPED, its end decides nothing
abbrev pub copy_dropped : Course → Written → Stream → Copy
copy_dropped (reads g d) w ts = next (copy_form g w ts) (copy_dropped d)
copy_dropped (turns c d e) w ts = pick (sees c ts) (copy_dropped d w ts) (copy_dropped e w ts)
copy_dropped (rooted d e) w ts = next (copy_form trees_in_braces w ts) (by_roots ts (copy_dropped d) (copy_dropped e))
copy_dropped (followed d g) w ts = next (copy_dropped d w ts) (copy_form g)
copy_dropped (rest g) w ts = copy_form g w ts
copy_dropped (kept g) w ts = copy_form g w ts
copy_dropped (lists d) w ts = next (copy_form shown_generics w ts) (copy_dropped d)
copy_dropped (led d) w ts = copy_dropped d w ts
copy_dropped (self_type d) w ts = next (copy_form (rule for_self_type) w ts) (copy_dropped d)

-- WHERE IT IS NOT, the tokens are written aside up to the end: u and b are the output before them and the tokens with which they begin.
-- The head is what was written aside before an impl's generics without parameters, while it isn't known whether they are printed as `< >`

-- the head, and what follows it
abbrev pub headed : Option Written → Written → Stream → Copy
headed None w ts = Reached w ts
headed (Some h) w ts = joining h w ts

-- generics would be read here, or not: then nothing is known of the head
abbrev pub headed_by : Option Written → Bool → (Option Written → Written → Stream → Copy) → Written → Stream → Copy
headed_by None z q w ts = q None w ts
headed_by (Some h) true q w ts = next (joining (adds h written_generics) w ts) (q None)
headed_by (Some h) false q w ts = q (Some h) w ts

-- generics that are printed: where there are no parameters, what follows is written aside once more
abbrev pub printed_lists : Bool → (Option Written → Written → Stream → Copy) → Option Written → Written → Stream → Copy
printed_lists true q h w ts = next (copy_form printed_generics w ts) (λ v r. q (Some v) (blank true) r)
printed_lists false q h w ts = next (copy_form printed_generics w ts) (q h)

abbrev pub copy_aside : Written → Stream → Course → Option Written → Written → Stream → Copy
copy_aside u b (reads g d) h w ts = next (copy_form g w ts) (copy_aside u b d h)
copy_aside u b (turns c d e) h w ts = pick (sees c ts) (copy_aside u b d h w ts) (copy_aside u b e h w ts)
copy_aside u b (rooted d e) h w ts = next (copy_form trees_in_braces w ts) (by_roots ts (copy_aside u b d h) (copy_aside u b e h))
copy_aside u b (followed d g) h w ts = next (copy_aside u b d h w ts) (copy_form g)
copy_aside u b (rest g) h w ts = next (next (headed h w ts) (joining u)) (copy_form g)
copy_aside u b (kept g) h w ts = next (copy_form g unwritten ts) (capturing u b)
copy_aside u b (lists d) h w ts = pick w.printing (printed_lists (no_parameters ts) (copy_aside u b d) h w ts) (next (copy_form shown_generics w ts) (copy_aside u b d h))
copy_aside u b (led d) h w ts = headed_by h (sees at_generics ts) (copy_aside u b d) w ts
copy_aside u b (self_type d) h w ts = headed_by h (leads_on ts) (λ m v r. next (copy_form (rule for_self_type) v r) (copy_aside u b d m)) w ts

-- either, by what is undecided
abbrev pub head_of : Option (Box Written Global) → Option Written
head_of None = None
head_of (Some h) = Some h.value

abbrev pub copy_begun : Option Begun → Option Written → Course → Written → Stream → Copy
copy_begun None h d w ts = copy_dropped d w ts
copy_begun (Some o) h d w ts = copy_aside o.before.value o.begin d h w ts

abbrev pub copy_draft : Draft → Course → Written → Stream → Copy
copy_draft g d w ts = copy_begun g.begun (head_of g.head) d w ts

-- what was written aside is appended to the output before it
abbrev pub joined : Option Begun → Option Written → Written → Stream → Copy
joined None h w ts = Reached w ts
joined (Some o) h w ts = next (headed h w ts) (joining o.before.value)

-- whether generics would be read here decides how those without parameters are printed
abbrev pub decided : Option Begun → Option Written → Bool → (Option Begun → Option Written → Written → Stream → Copy) → Written → Stream → Copy
decided None h z q w ts = q None h w ts
decided (Some o) h z q w ts = headed_by h z (q (Some o)) w ts

abbrev pub Decides : {E : Type 0} → (E → Type 0) → Draft → Bool → Written → Stream → Result Draft E → Written → Type 0
Decides refusal g z w ts (Ok d) v = (q : Option Begun → Option Written → Written → Stream → Copy) → decided g.begun (head_of g.head) z q w ts ≡ q d.begun (head_of d.head) v ts
Decides refusal g z w ts (Err e) v = refusal e → (q : Option Begun → Option Written → Written → Stream → Copy) → decided g.begun (head_of g.head) z q w ts ≡ Refused
