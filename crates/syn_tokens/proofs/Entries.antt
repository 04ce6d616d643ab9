-- The entries of streams.
use Rattle.std.proofs.Common.{◌≡◌, ℕ, ◌+◌, ◌≤◌, Bool, true, false, List, [], ◌∷◌, ◌++◌, length, refl, sym, ap, ◌∙◌, append_assoc, append-nil, length-append, arith}
use Rattle.syn_grammar.specs.Tokens as grammar
use Rattle.syn_grammar.specs.Tokens.{ident, literal, Stream, end, leaf, punct, group, ◌⧺◌}
use Rattle.syn_grammar.specs.Take as count
use Rattle.syn_grammar.proofs.Streams.{append_end}
use Rattle.syn_tokens.specs.Spans.{at}
use Rattle.syn_tokens.specs.Delimiters.{delimiter_of}
use Rattle.syn_tokens.specs.Punct.{is_joint}
use Rattle.syn_tokens.specs.Literals.{kind_of}
use Rattle.syn_tokens.specs.Entries.{spacing_from, delimiter_from, kind_from, leaf_entry, punct_entry, open_entry, close_entry, encode, State, step, states, decode, IsFlat, IsToken}
use Rattle.syn_tokens.specs.declared.span.Span.{Span}
use Rattle.syn_tokens.specs.declared.delimiter.Delimiter.{Delimiter}
use Rattle.syn_tokens.specs.declared.delimiter.Delimiter.TheVariants.{Paren, Brace, Bracket, None}
use Rattle.syn_tokens.specs.declared.literal.LitKind.{LitKind}
use Rattle.syn_tokens.specs.declared.literal.LitKind.TheVariants.{Str, ByteStr, CStr, Byte, Char, Int, Float}
use Rattle.syn_tokens.specs.declared.punct.Spacing.{Spacing}
use Rattle.syn_tokens.specs.declared.punct.Spacing.TheVariants.{Joint, Alone}
use Rattle.syn_tokens.specs.declared.stream.entry.Token.{Token as Entry}
use Rattle.syn_tokens.specs.declared.stream.entry.Token.TheVariants as E

-- THERE AND BACK

pub joint_back : (j : Bool) → is_joint (spacing_from j) ≡ j
joint_back true = refl
joint_back false = refl

pub delimiter_back : (d : grammar.Delimiter) → delimiter_of (delimiter_from d) ≡ d
delimiter_back grammar.Paren = refl
delimiter_back grammar.Brace = refl
delimiter_back grammar.Bracket = refl
delimiter_back grammar.None = refl

pub kind_back : (k : grammar.LitKind) → kind_of (kind_from k) ≡ k
kind_back grammar.Str = refl
kind_back grammar.ByteStr = refl
kind_back grammar.CStr = refl
kind_back grammar.Byte = refl
kind_back grammar.Char = refl
kind_back grammar.Int = refl
kind_back grammar.Float = refl

-- trees in front of others
abbrev pub ahead : Stream → State → State
ahead ts s = record { trees = ts ⧺ s.trees; outer = s.outer; opened = s.opened }

pub states_back : (ts : Stream) (es : List Entry) → states (encode ts ++ es) ≡ ahead ts (states es)
states_back end es = refl
states_back (leaf (ident x) sp m) es = ap (step (leaf_entry (ident x) sp)) (states_back m es)
states_back (leaf (literal k x) sp m) es =
    ap (step (leaf_entry (literal k x) sp)) (states_back m es)
    ∙ ap (λ l. record { trees = leaf (literal l x) sp (m ⧺ (states es).trees); outer = (states es).outer; opened = (states es).opened }) (kind_back k)
states_back (punct c j sp m) es =
    ap (step (punct_entry c j sp)) (states_back m es)
    ∙ ap (λ k. record { trees = punct c k sp (m ⧺ (states es).trees); outer = (states es).outer; opened = (states es).opened }) (joint_back j)
states_back (group d o c i m) es =
    ap (λ fs. step (open_entry d o (length (encode i))) (states fs)) (append_assoc (encode i) (close_entry d c (count.length i) ∷ encode m) es)
    ∙ ap (step (open_entry d o (length (encode i)))) (states_back i (close_entry d c (count.length i) ∷ (encode m ++ es)))
    ∙ ap (λ s. step (open_entry d o (length (encode i))) (ahead i (step (close_entry d c (count.length i)) s))) (states_back m es)
    ∙ ap (λ e. record { trees = group e o c (i ⧺ end) (m ⧺ (states es).trees); outer = (states es).outer; opened = (states es).opened }) (delimiter_back d)
    ∙ ap (λ j. record { trees = group d o c j (m ⧺ (states es).trees); outer = (states es).outer; opened = (states es).opened }) (append_end i)

-- the entries of a stream represent that stream
pub decode-encode : (ts : Stream) → decode (encode ts) ≡ ts
decode-encode ts = ap decode (sym (append-nil (encode ts))) ∙ ap (λ s. s.trees) (states_back ts []) ∙ append_end ts

pub decoded : (es : List Entry) (ts : Stream) → es ≡ encode ts → decode es ≡ ts
decoded es ts e = ap decode e ∙ decode-encode ts

pub is_flat : (es : List Entry) (ts : Stream) (n : ℕ) → es ≡ encode ts → n ≡ count.length ts → IsFlat es n
is_flat es ts n e c = record { encoded = e ∙ ap encode (sym (decoded es ts e)); counted = c ∙ ap count.length (sym (decoded es ts e)) }

-- ONE AFTER ANOTHER

pub encode-append : (ts us : Stream) → encode (ts ⧺ us) ≡ encode ts ++ encode us
encode-append end us = refl
encode-append (leaf x sp m) us = ap (λ es. leaf_entry x sp ∷ es) (encode-append m us)
encode-append (punct c j sp m) us = ap (λ es. punct_entry c j sp ∷ es) (encode-append m us)
encode-append (group d o c i m) us =
    ap (λ es. open_entry d o (length (encode i)) ∷ (encode i ++ close_entry d c (count.length i) ∷ es)) (encode-append m us)
    ∙ ap (λ es. open_entry d o (length (encode i)) ∷ es) (sym (append_assoc (encode i) (close_entry d c (count.length i) ∷ encode m) (encode us)))

pub length-append_streams : (ts us : Stream) → count.length (ts ⧺ us) ≡ count.length ts + count.length us
length-append_streams end us = omega arith
length-append_streams (leaf x sp m) us = omega (arith, length-append_streams m us)
length-append_streams (punct c j sp m) us = omega (arith, length-append_streams m us)
length-append_streams (group d o c i m) us = omega (arith, length-append_streams m us)

-- no more trees than entries
pub length_encode : (ts : Stream) → count.length ts ≤ length (encode ts)
length_encode end = omega arith
length_encode (leaf x sp m) = omega (arith, length_encode m)
length_encode (punct c j sp m) = omega (arith, length_encode m)
length_encode (group d o c i m) = omega (arith, length_encode m, length-append (encode i) (close_entry d c (count.length i) ∷ encode m))

-- MORE ENTRIES

pub delimiter_there : (d : Delimiter) → delimiter_from (delimiter_of d) ≡ d
delimiter_there Paren = refl
delimiter_there Brace = refl
delimiter_there Bracket = refl
delimiter_there None = refl

pub kind_there : (k : LitKind) → kind_from (kind_of k) ≡ k
kind_there Str = refl
kind_there ByteStr = refl
kind_there CStr = refl
kind_there Byte = refl
kind_there Char = refl
kind_there Int = refl
kind_there Float = refl

pub joint_there : (s : Spacing) → spacing_from (is_joint s) ≡ s
joint_there Joint = refl
joint_there Alone = refl

-- no more trees than entries
pub few : (es : List Entry) (n : ℕ) → IsFlat es n → n ≤ length es
few es n f = omega (arith, f.counted, length_encode (decode es), ap length f.encoded)

-- the entries of one stream, and then those of another
joined_encoded : (es fs : List Entry) (n m : ℕ) → IsFlat es n → IsFlat fs m → es ++ fs ≡ encode (decode es ⧺ decode fs)
joined_encoded es fs n m f g = (λ i. f.encoded i ++ g.encoded i) ∙ sym (encode-append (decode es) (decode fs))

pub joined : (es fs : List Entry) (n m : ℕ) → IsFlat es n → IsFlat fs m → IsFlat (es ++ fs) (n + m)
joined es fs n m f g =
    is_flat (es ++ fs) (decode es ⧺ decode fs) (n + m) (joined_encoded es fs n m f g)
    (omega (arith, f.counted, g.counted, length-append_streams (decode es) (decode fs)))

pub joined_is : (es fs : List Entry) (n m : ℕ) → IsFlat es n → IsFlat fs m → decode (es ++ fs) ≡ decode es ⧺ decode fs
joined_is es fs n m f g = decoded (es ++ fs) (decode es ⧺ decode fs) (joined_encoded es fs n m f g)

-- a token is a stream
pub token_flat : (t : Entry) → IsToken t → IsFlat (t ∷ []) 1
token_flat (E.Ident i) h = record { encoded = refl; counted = omega arith }
token_flat (E.Literal l) h = record { encoded = ap (λ k. E.Literal (record { kind = k; text = l.text; span = l.span }) ∷ []) (sym (kind_there l.kind)); counted = omega arith }
token_flat (E.Punct p) h = record { encoded = ap (λ s. E.Punct (record { character = p.character; spacing = s; span = p.span }) ∷ []) (sym (joint_there p.spacing)); counted = omega arith }
token_flat (E.Open o) h = absurd h
token_flat (E.Close c) h = absurd h

-- and so is a group
abbrev pub enclosed : Delimiter → Span → Span → ℕ → ℕ → List Entry → List Entry
enclosed d o c skip n es = E.Open (record { delimiter = d; span = o; skip = skip }) ∷ (es ++ E.Close (record { delimiter = d; span = c; trees = n }) ∷ [])

abbrev group_of : Delimiter → Span → Span → List Entry → Stream
group_of d o c es = group (delimiter_of d) (at o) (at c) (decode es) end

group_encoded : (d : Delimiter) (o c : Span) (es : List Entry) (skip n : ℕ) → skip ≡ length es → IsFlat es n → enclosed d o c skip n es ≡ encode (group_of d o c es)
group_encoded d o c es skip n s f =
    (λ i. enclosed (sym (delimiter_there d) i) o c (s i) (f.counted i) es)
    ∙ ap (λ fs. enclosed (delimiter_from (delimiter_of d)) o c (length fs) (count.length (decode es)) fs) f.encoded

pub group_flat : (d : Delimiter) (o c : Span) (es : List Entry) (skip n : ℕ) → skip ≡ length es → IsFlat es n → IsFlat (enclosed d o c skip n es) 1
group_flat d o c es skip n s f = is_flat (enclosed d o c skip n es) (group_of d o c es) 1 (group_encoded d o c es skip n s f) (omega arith)

pub group_is : (d : Delimiter) (o c : Span) (es : List Entry) (skip n : ℕ) → skip ≡ length es → IsFlat es n → decode (enclosed d o c skip n es) ≡ group_of d o c es
group_is d o c es skip n s f = decoded (enclosed d o c skip n es) (group_of d o c es) (group_encoded d o c es skip n s f)
