-- WHAT IS WRITTEN of a tree that is read, after what was written before.
use Rattle.std.specs.Prelude.{◌≡◌, true, Bool, ℕ, false, Some, None, Result, Ok, Err}
use Rattle.syn_grammar.specs.Words.{comma}
use Rattle.syn_grammar.specs.Tokens.{Span, Stream, end, punct, call_site, pick}
use Rattle.syn_grammar.specs.Rules.{Rule}
use Rattle.syn_grammar.specs.Grammar.{Syntax, Grammar, Last, More, at_row_comma}
use Rattle.syn_grammar.specs.Take.{Out, before, is_end, sees, take_mark}
use Rattle.syn_grammar.specs.Run.{parse_form, rows}
use Rattle.syn_grammar.proofs.Said.{start_of}
use Rattle.syn_recognize.specs.PrintedRows.{way, with_comma, others_of, row_of}
use Rattle.syn_recognize.specs.Written.{Written, adds, closed, leaves, stream_of}
use Rattle.syn_recognize.specs.Ordered.{member}
use Rattle.syn_recognize.specs.declared.list.List as list
use Rattle.syn_recognize.specs.Trailing.{ends_by}

-- the output and the tokens left; or nothing is read. Stuck is for proofs alone: there a guess was wrong, and nothing is known
pub data Copy : Type 0 where
  Reached : Written → Stream → Copy
  Refused : Copy
  Stuck : Copy

-- the result of a parse, with its tree after what was written
abbrev pub copied : Written → Out → Copy
copied w (Some p) = Reached (adds w (way w.printing p.0)) p.1
copied w None = Refused

-- a promise: the tree of the parse was written; or there is none
abbrev pub Copies : {E : Type 0} → (E → Type 0) → Written → Out → Result (Unit {0}) E → Written → Stream → Type 0
Copies refusal old out (Ok x) new ts = copied old out ≡ Reached new ts
Copies refusal old out (Err e) new ts = refusal e → out ≡ None

-- how many tokens a rule reads at least
abbrev pub least_of : Bool → ℕ
least_of true = 0
least_of false = 1

abbrev pub least : Rule → ℕ
least k = least_of (start_of k).nullable

-- one thing and then another
abbrev pub next : Copy → (Written → Stream → Copy) → Copy
next (Reached w ts) q = q w ts
next Refused q = Refused
next Stuck q = Stuck

-- the end of a group, and what follows it
abbrev pub closing : Span → Stream → Written → Stream → Copy
closing c rest w ts = pick (is_end ts) (Reached (leaves c w) rest) Refused

-- a form
unfoldable pub copy_form : Grammar → Written → Stream → Copy
copy_form g w ts = copied w (parse_form g ts)

-- ASIDE

-- the output before it, and nothing more
abbrev pub forgetting : Written → Written → Stream → Copy
forgetting u w ts = Reached u ts

-- the output before it, and what was written aside; nothing is read where a group is still open
abbrev pub joining : Written → Written → Stream → Copy
joining u w ts = pick (closed w) (Reached (adds u (stream_of w)) ts) Refused

-- the output before it, with the tokens read from there on copied unchanged
abbrev pub capturing : Written → Stream → Written → Stream → Copy
capturing u begin w ts = Reached (adds u (before begin ts)) ts

-- LISTS of members that are printed first, and others

abbrev pub copied_row : Written → Out → Copy
copied_row w (Some p) = Reached (adds w (row_of w.printing p.0)) p.1
copied_row w None = Refused

unfoldable pub copy_row : list.List → Written → Stream → Copy
copy_row k w ts = copied_row w (rows (member k) ts)

-- what follows a member
abbrev pub after_member : list.List → Written → Stream → Copy
after_member k w ts = pick (sees at_row_comma ts) (next (copied w (take_mark comma ts)) (copy_row k)) (Reached w ts)

-- THE REST OF A LIST whose other members so far are written aside: the members of the first form are added to the output before it

-- the members of the first form, each with its comma; the last, where it has none, gets one
abbrev pub late_of : Bool → Syntax → Stream
late_of a (More true s sp t) = with_comma (way a s) sp (late_of a t)
late_of a (More false s sp t) = late_of a t
late_of a (Last true s) = with_comma (way a s) call_site end
late_of a t = end

abbrev pub copied_others : Written → Written → Out → Copy
copied_others u w (Some p) = joining (adds u (late_of u.printing p.0)) (adds w (others_of w.printing p.0)) p.1
copied_others u w None = Refused

unfoldable pub copy_others : list.List → Written → Written → Stream → Copy
copy_others k u w ts = copied_others u w (rows (member k) ts)

-- what follows another member there
abbrev pub after_other : list.List → Written → Written → Stream → Copy
after_other k u w ts = pick (sees at_row_comma ts) (next (copied w (take_mark comma ts)) (copy_others k u)) (joining u w ts)

-- what follows a member of the first form there; the others are w
abbrev pub after_late : list.List → Written → Written → Stream → Copy
after_late k w u ts = pick (sees at_row_comma ts) (next (copied u (take_mark comma ts)) (λ v r. copy_others k v w r)) (joining (adds u (punct 44 false call_site end)) w ts)

-- one of two forms, by whether the tokens read from there on end with a group in braces
abbrev pub by_braces : Grammar → Grammar → Stream → Written → Stream → Copy
by_braces g h begin w ts = pick (ends_by false (before begin ts)) (copy_form g w ts) (copy_form h w ts)
