-- Token streams that are being built.
use Rattle.std.proofs.Common.{◌≡◌, ℕ, ◌+◌, List, [], ◌∷◌, ◌++◌, length, length-append, refl, sym, ap, ◌∙◌, append_assoc, append-nil, set, arith}
use Rattle.std.proofs.lemmas.List.{set_at}
use Rattle.syn_grammar.specs.Tokens.{Stream, end, group, ◌⧺◌}
use Rattle.syn_grammar.specs.Take as grammar
use Rattle.syn_grammar.proofs.Streams.{append_end}
use Rattle.syn_tokens.specs.Spans.{at}
use Rattle.syn_tokens.specs.Delimiters.{delimiter_of}
use Rattle.syn_tokens.specs.Entries.{encode, State, step, states}
use Rattle.syn_tokens.specs.Building.{OpenGroup, open_delimiter, laid, groups, content, groups_in, stream_in}
use Rattle.syn_tokens.specs.Builders.{pending, places, front, IsBuilt}
use Rattle.syn_tokens.proofs.Entries.{ahead, states_back, delimiter_there, encode-append}
use Rattle.syn_tokens.specs.declared.span.Span.{Span}
use Rattle.syn_tokens.specs.declared.stream.entry.Open.{Open}
use Rattle.syn_tokens.specs.declared.stream.entry.Close.{Close}
use Rattle.syn_tokens.specs.declared.stream.entry.Token.{Token as Entry}
use Rattle.syn_tokens.specs.declared.stream.entry.Token.TheVariants as E
use Rattle.syn_tokens.specs.declared.stream.builder.Pending.{Pending}

-- THERE AND BACK

abbrev opening_of : OpenGroup → Open
opening_of g = record { delimiter = g.delimiter; span = g.opening; skip = 0 }

abbrev opened : List OpenGroup → Stream → List (Open × Stream)
opened [] s = []
opened (g ∷ gs) s = (opening_of g, front gs s) ∷ opened gs s

states_laid : (gs : List OpenGroup) (s : Stream) → states (laid gs s) ≡ record { trees = front gs s; outer = []; opened = opened gs s }
states_laid [] s =
    ap states (sym (append-nil (encode s))) ∙ states_back s []
    ∙ ap (λ t. record { trees = t; outer = []; opened = [] }) (append_end s)
states_laid (g ∷ gs) s =
    states_back g.outer (open_delimiter g ∷ laid gs s)
    ∙ ap (λ st. ahead g.outer (step (open_delimiter g) st)) (states_laid gs s)
    ∙ ap (λ t. record { trees = t; outer = []; opened = (opening_of g, front gs s) ∷ opened gs s }) (append_end g.outer)

groups_back : (gs : List OpenGroup) (s : Stream) → groups (front gs s) (opened gs s) ≡ gs
groups_back [] s = refl
groups_back (g ∷ gs) s = ap (λ hs. g ∷ hs) (groups_back gs s)

content_back : (gs : List OpenGroup) (s : Stream) → content (front gs s) (opened gs s) ≡ s
content_back [] s = refl
content_back (g ∷ gs) s = content_back gs s

pub groups_are : (es : List Entry) (gs : List OpenGroup) (s : Stream) → es ≡ laid gs s → groups_in es ≡ gs
groups_are es gs s e = ap groups_in e ∙ ap (λ (st : State). groups st.trees st.opened) (states_laid gs s) ∙ groups_back gs s

pub stream_is : (es : List Entry) (gs : List OpenGroup) (s : Stream) → es ≡ laid gs s → stream_in es ≡ s
stream_is es gs s e = ap stream_in e ∙ ap (λ (st : State). content st.trees st.opened) (states_laid gs s) ∙ content_back gs s

pub is_built : (es : List Entry) (ps : List Pending) (n : ℕ) (gs : List OpenGroup) (s : Stream) → es ≡ laid gs s → ps ≡ places 0 gs → n ≡ grammar.length s → IsBuilt es ps n
is_built es ps n gs s e p c =
    let g = sym (groups_are es gs s e) in
    let t = sym (stream_is es gs s e) in
    record {
      encoded = e ∙ (λ i. laid (g i) (t i));
      placed = p ∙ ap (places 0) g;
      counted = c ∙ ap grammar.length t;
    }

-- MORE ENTRIES

pub laid_more : (gs : List OpenGroup) (s u : Stream) → laid gs s ++ encode u ≡ laid gs (s ⧺ u)
laid_more [] s u = sym (encode-append s u)
laid_more (g ∷ gs) s u =
    append_assoc (encode g.outer) (open_delimiter g ∷ laid gs s) (encode u) ∙ ap (λ es. encode g.outer ++ open_delimiter g ∷ es) (laid_more gs s u)

pub laid_open : (gs : List OpenGroup) (g : OpenGroup) (s : Stream) → laid (gs ++ g ∷ []) s ≡ laid gs g.outer ++ open_delimiter g ∷ encode s
laid_open [] g s = refl
laid_open (h ∷ gs) g s =
    ap (λ es. encode h.outer ++ open_delimiter h ∷ es) (laid_open gs g s)
    ∙ sym (append_assoc (encode h.outer) (open_delimiter h ∷ laid gs g.outer) (open_delimiter g ∷ encode s))

pub places_open : (n : ℕ) (gs : List OpenGroup) (g : OpenGroup) → places n (gs ++ g ∷ []) ≡ places n gs ++ pending (n + length (laid gs g.outer)) g ∷ []
places_open n [] g = refl
places_open n (h ∷ gs) g =
    let k : n + length (encode h.outer) + 1 + length (laid gs g.outer) ≡ n + length (encode h.outer ++ open_delimiter h ∷ laid gs g.outer) =
    omega (arith, length-append (encode h.outer) (open_delimiter h ∷ laid gs g.outer)) in
    ap (λ ps. pending (n + length (encode h.outer)) h ∷ ps) (places_open (n + length (encode h.outer) + 1) gs g)
    ∙ ap (λ m. pending (n + length (encode h.outer)) h ∷ (places (n + length (encode h.outer) + 1) gs ++ pending m g ∷ [])) k

-- the innermost open group, from its stored form
pub record Last (n : ℕ) (gs : List OpenGroup) (ps : List Pending) (p : Pending) : Type 0 where
  pub around : List OpenGroup
  pub innermost : OpenGroup
  pub is : gs ≡ around ++ innermost ∷ []
  pub before : ps ≡ places n around
  pub here : p ≡ pending (n + length (laid around innermost.outer)) innermost

pub last_place : (n : ℕ) (gs : List OpenGroup) (ps : List Pending) (p : Pending) → places n gs ≡ ps ++ p ∷ [] → Last n gs ps p
last_place n [] [] p e = absurd (cc)
last_place n [] (q ∷ ps) p e = absurd (cc)
last_place n (g ∷ []) [] p e = record { around = []; innermost = g; is = refl; before = refl; here = cc }
last_place n (g ∷ []) (q ∷ ps) p e = absurd (omega (arith, ap length e, length-append ps (p ∷ [])))
last_place n (g ∷ h ∷ gs) [] p e = absurd (cc)
last_place n (g ∷ h ∷ gs) (q ∷ ps) p e =
    let first : q ≡ pending (n + length (encode g.outer)) g = cc in
    let others : places (n + length (encode g.outer) + 1) (h ∷ gs) ≡ ps ++ p ∷ [] = cc in
    let r = last_place (n + length (encode g.outer) + 1) (h ∷ gs) ps p others in
    let k : n + length (encode g.outer) + 1 + length (laid r.around r.innermost.outer) ≡ n + length (encode g.outer ++ open_delimiter g ∷ laid r.around r.innermost.outer) =
    omega (arith, length-append (encode g.outer) (open_delimiter g ∷ laid r.around r.innermost.outer)) in
    record {
      around = g ∷ r.around;
      innermost = r.innermost;
      is = ap (λ hs. g ∷ hs) r.is;
      before = λ i. first i ∷ r.before i;
      here = r.here ∙ ap (λ m. pending m r.innermost) k;
    }

-- if no open group is stored, none is open
pub none_open : (n : ℕ) (gs : List OpenGroup) → [] ≡ places n gs → gs ≡ []
none_open n [] e = refl
none_open n (g ∷ gs) e = absurd (cc)

-- A GROUP IS CLOSED

abbrev pub opening : OpenGroup → Stream → Open
opening g s = record { delimiter = g.delimiter; span = g.opening; skip = length (encode s) }

abbrev pub closing : OpenGroup → Span → Stream → Close
closing g c s = record { delimiter = g.delimiter; span = c; trees = grammar.length s }

abbrev pub closed : OpenGroup → Span → Stream → Stream
closed g c s = group (delimiter_of g.delimiter) (at g.opening) (at c) s end

delimited : (g : OpenGroup) (c : Span) (s : Stream) → E.Open (opening g s) ∷ (encode s ++ E.Close (closing g c s) ∷ []) ≡ encode (closed g c s)
delimited g c s =
    ap (λ d. E.Open (record { delimiter = d; span = g.opening; skip = length (encode s) }) ∷ (encode s ++ E.Close (record { delimiter = d; span = c; trees = grammar.length s }) ∷ []))
    (sym (delimiter_there g.delimiter))

pub laid_closed : (gs : List OpenGroup) (g : OpenGroup) (c : Span) (s : Stream) →
    set (laid (gs ++ g ∷ []) s ++ E.Close (closing g c s) ∷ []) (length (laid gs g.outer)) (E.Open (opening g s)) ≡ laid gs (g.outer ⧺ closed g c s)
laid_closed gs g c s =
    ap (λ es. set (es ++ E.Close (closing g c s) ∷ []) (length (laid gs g.outer)) (E.Open (opening g s))) (laid_open gs g s)
    ∙ ap (λ es. set es (length (laid gs g.outer)) (E.Open (opening g s))) (append_assoc (laid gs g.outer) (open_delimiter g ∷ encode s) (E.Close (closing g c s) ∷ []))
    ∙ set_at (laid gs g.outer) (open_delimiter g) (encode s ++ E.Close (closing g c s) ∷ []) (E.Open (opening g s)) (length (laid gs g.outer)) refl
    ∙ ap (λ es. laid gs g.outer ++ es) (delimited g c s)
    ∙ laid_more gs g.outer (closed g c s)

-- so many entries, with those of the innermost open group after its delimiter
pub length_laid : (gs : List OpenGroup) (g : OpenGroup) (s : Stream) → length (laid (gs ++ g ∷ []) s) ≡ length (laid gs g.outer) + 1 + length (encode s)
length_laid gs g s = omega (arith, ap length (laid_open gs g s), length-append (laid gs g.outer) (open_delimiter g ∷ encode s))
