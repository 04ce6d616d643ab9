-- The effect of several prints in sequence.
use Rattle.std.proofs.Common.{◌≡◌, true, List, ◌∷◌, ◌++◌, [], refl, sym, ap, ◌∙◌}
use Rattle.syn_grammar.specs.Tokens as grammar
use Rattle.syn_grammar.specs.Tokens.{Stream, end, group, ◌⧺◌}
use Rattle.syn_grammar.proofs.Streams.{append_append, append_end}
use Rattle.syn_tokens.specs.Spans.{at}
use Rattle.syn_tokens.specs.Delimiters.{delimiter_of}
use Rattle.syn_tokens.specs.declared.span.Span.{Span}
use Rattle.syn_tokens.specs.declared.delimiter.Delimiter.{Delimiter}
use Rattle.syn_tokens.specs.Entries.{from, delimiter_from}
use Rattle.syn_tokens.specs.Building.{Building, OpenGroup, closed_in, added, into_group, out_of_group, is_open}
use Rattle.syn_tokens.proofs.Entries.{delimiter_back, delimiter_there}
use Rattle.syn_tokens.proofs.Builders.{closed_last, one_open}

closed_before : (before : Stream) (gs : List OpenGroup) (c : grammar.Span) (s : Stream) → (closed_in before gs c s).before ≡ before
closed_before before [] c s = refl
closed_before before (g ∷ gs) c s = refl

pub added_more : (b : Building) (s t : Stream) → added (added b s) t ≡ added b (s ⧺ t)
unfolding added
added_more b s t = ap (λ u. record b { stream = u }) (append_append b.stream s t)

pub added_none : (b : Building) → added b end ≡ b
unfolding added
added_none b = ap (λ u. record b { stream = u }) (append_end b.stream)

-- a group is opened
pub opened_group : (r : Delimiter) (o : Span) (b : Building) →
    record b { open_groups = b.open_groups ++ record { delimiter = r; opening = o; outer = b.stream } ∷ []; stream = end } ≡ into_group (delimiter_of r) (at o) b
unfolding into_group
opened_group r o b = ap (λ d. record b { open_groups = b.open_groups ++ record { delimiter = d; opening = o; outer = b.stream } ∷ []; stream = end }) (sym (delimiter_there r))

pub before_group : (c : grammar.Span) (b : Building) → (out_of_group c b).before ≡ b.before
unfolding out_of_group
before_group c b = closed_before b.before b.open_groups c b.stream

-- a group with the tokens that were added inside of it
pub added_group : (d : grammar.Delimiter) (o c : grammar.Span) (b : Building) (s : Stream) → out_of_group c (added (into_group d o b) s) ≡ added b (group d o c s end)
unfolding added into_group out_of_group
added_group d o c b s =
    closed_last b.before b.open_groups (record { delimiter = delimiter_from d; opening = from o; outer = b.stream }) c s
    ∙ ap (λ e. record b { stream = b.stream ⧺ group e o c s end }) (delimiter_back d)

pub added_empty : (d : grammar.Delimiter) (o c : grammar.Span) (b : Building) → out_of_group c (into_group d o b) ≡ added b (group d o c end end)
added_empty d o c b = ap (out_of_group c) (sym (added_none (into_group d o b))) ∙ added_group d o c b end

-- a group is open
pub open_inside : (d : grammar.Delimiter) (o : grammar.Span) (b : Building) → is_open (into_group d o b) ≡ true
unfolding into_group is_open
open_inside d o b = one_open b.open_groups (record { delimiter = delimiter_from d; opening = from o; outer = b.stream })

pub open_still : (b : Building) (s : Stream) → is_open (added b s) ≡ is_open b
unfolding added is_open
open_still b s = refl

-- prints of parts in sequence, and prints of groups
pub ruleset prints = (added_more, added_none, append_append, append_end)

pub ruleset groups = (prints, added_group, added_empty, open_inside, open_still)
