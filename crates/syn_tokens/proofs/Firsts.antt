-- The first entry decides whether a group comes first in a stream.
use Rattle.std.proofs.Common.{◌≡◌, Bool, true, false, List, ◌∷◌, length, Some, refl, sym, ap, ◌∙◌}
use Rattle.syn_grammar.specs.Tokens.{ident, literal, Stream, end, leaf, punct, group}
use Rattle.syn_grammar.specs.Take.{only, taken, take_group, same_delimiter}
use Rattle.syn_tokens.specs.Delimiters.{delimiter_of}
use Rattle.syn_tokens.specs.Entries.{leaf_entry, punct_entry, open_entry, encode}
use Rattle.syn_tokens.specs.Firsts.{opens}
use Rattle.syn_tokens.proofs.Entries.{delimiter_back}
use Rattle.syn_tokens.specs.declared.delimiter.Delimiter.{Delimiter}
use Rattle.syn_tokens.specs.declared.stream.entry.Token.{Token as Entry}

taken_only : {A : Type 0} (b : Bool) (x : A) → taken (only b (Some x)) ≡ b
taken_only true x = refl
taken_only false x = refl

pub group_first : (d : Delimiter) (e : Entry) (es : List Entry) (ts : Stream) → e ∷ es ≡ encode ts → opens d e ≡ taken (take_group (delimiter_of d) ts)
unfolding take_group
group_first d e es end h = absurd (cc)
group_first d e es (leaf (ident x) sp m) h = let f : e ≡ leaf_entry (ident x) sp = cc in ap (opens d) f
group_first d e es (leaf (literal k x) sp m) h = let f : e ≡ leaf_entry (literal k x) sp = cc in ap (opens d) f
group_first d e es (punct c j sp m) h = let f : e ≡ punct_entry c j sp = cc in ap (opens d) f
group_first d e es (group k o c i m) h =
    let f : e ≡ open_entry k o (length (encode i)) = cc in
    ap (opens d) f
    ∙ ap (same_delimiter (delimiter_of d)) (delimiter_back k)
    ∙ sym (taken_only (same_delimiter (delimiter_of d) k) _)

pub no_group_ended : (d : Delimiter) → taken (take_group (delimiter_of d) end) ≡ false
unfolding take_group
no_group_ended d = refl
