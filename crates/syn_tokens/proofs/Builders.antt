-- The states that the calls of a builder leave.
use Rattle.std.proofs.Common.{◌≡◌, ℕ, Bool, true, nat_eq, ◌+◌, ◌-◌, ◌≤◌, List, [], ◌∷◌, ◌++◌, length, length-append, refl, sym, subst, ap, ◌∙◌, set, take, arith}
use mathlib.Core.Bool.{not}
use Rattle.std.proofs.Math.Dec.{eqb-suc-zero}
use Rattle.std.proofs.lemmas.List.{take-append-le, take-set-le, take_all}
use Rattle.syn_grammar.specs.Tokens.{Stream, end, group, ◌⧺◌}
use Rattle.syn_grammar.specs.Take as grammar
use Rattle.syn_grammar.specs.Tokens as grammar_span
use Rattle.syn_tokens.specs.Spans.{at}
use Rattle.syn_tokens.specs.Delimiters.{delimiter_of}
use Rattle.syn_tokens.specs.Faults.{ErrorValue}
use Rattle.syn_tokens.specs.Entries.{encode, decode, IsFlat}
use Rattle.syn_tokens.specs.Building.{OpenGroup, Building, innermost, around, is_open_in, is_open, out_of_group, open_delimiter, laid, groups_in, stream_in, building, closed_in, Closes, NotOpen, IsUnbalanced, unbalanced}
use Rattle.syn_tokens.specs.Builders.{pending, places, front, IsBuilt, IsBegun}
use Rattle.syn_tokens.proofs.Entries.{encode-append, is_flat, decoded, length_encode, length-append_streams}
use Rattle.syn_tokens.proofs.Building.{groups_are, stream_is, is_built, laid_more, laid_open, places_open, Last, last_place, none_open, closed, laid_closed, length_laid}
use Rattle.syn_tokens.specs.declared.span.Span.{Span}
use Rattle.syn_tokens.specs.declared.delimiter.Delimiter.{Delimiter}
use Rattle.syn_tokens.specs.declared.stream.entry.Token.{Token as Entry}
use Rattle.syn_tokens.specs.declared.stream.entry.Token.TheVariants as E
use Rattle.syn_tokens.specs.declared.stream.builder.Pending.{Pending}

longer : (gs : List OpenGroup) (s : Stream) → length (encode s) ≤ length (laid gs s)
longer [] s = omega arith
longer (g ∷ gs) s = omega (arith, longer gs s, length-append (encode g.outer) (open_delimiter g ∷ laid gs s))

-- WHAT IT BEGAN WITH

front_fits : (gs : List OpenGroup) (s : Stream) → length (encode (front gs s)) ≤ length (laid gs s)
front_fits [] s = omega arith
front_fits (g ∷ gs) s = omega (arith, length-append (encode g.outer) (open_delimiter g ∷ laid gs s))

front_more : (gs : List OpenGroup) (s u : Stream) → length (encode (front gs s)) ≤ length (encode (front gs (s ⧺ u)))
front_more [] s u = omega (arith, ap length (encode-append s u), length-append (encode s) (encode u))
front_more (g ∷ gs) s u = omega arith

front_open : (gs : List OpenGroup) (g : OpenGroup) (s : Stream) → front (gs ++ g ∷ []) s ≡ front gs g.outer
front_open [] g s = refl
front_open (h ∷ gs) g s = refl

module _ (m k : ℕ) (es : List Entry) (a : IsBegun m k es) where
  -- it is no more than what is there now
  pub begun_fits : (ps : List Pending) (n : ℕ) → IsBuilt es ps n → m ≤ length es
  begun_fits ps n b = omega (arith, a.within, front_fits (groups_in es) (stream_in es), ap length b.encoded)

  -- it is unchanged in longer entries that start with the same
  begun_on : (fs : List Entry) (gs : List OpenGroup) (s : Stream) → fs ≡ laid gs s → take m fs ≡ take m es →
      length (encode (front (groups_in es) (stream_in es))) ≤ length (encode (front gs s)) → IsBegun m k fs
  begun_on fs gs s e same l =
      record {
        flat = subst (λ xs. IsFlat xs k) (sym same) a.flat;
        within =
            let fg = groups_are fs gs s e in
            let fs' = stream_is fs gs s e in
            let t : length (encode (front (groups_in fs) (stream_in fs))) ≡ length (encode (front gs s)) = λ i. length (encode (front (fg i) (fs' i))) in
            omega (arith, a.within, l, t);
      }

  building_on : (fs : List Entry) (gs : List OpenGroup) (s : Stream) → fs ≡ laid gs s → take m fs ≡ take m es →
      building m fs ≡ record (building m es) { open_groups = gs; stream = s }
  building_on fs gs s e same = λ i. record { before = decode (same i); open_groups = groups_are fs gs s e i; stream = stream_is fs gs s e i }

-- a stream is a builder without open groups
pub begun_flat : (es : List Entry) (n : ℕ) → IsFlat es n → IsBuilt es [] n
begun_flat es n f = is_built es [] n [] (decode es) f.encoded refl f.counted

pub flat_begun : (es : List Entry) (n m : ℕ) → IsFlat es n → m ≡ length es → IsBegun m n es
flat_begun es n m f e =
    let all : take m es ≡ es = ap (λ j. take j es) e ∙ take_all (length es) es (omega arith) in
    record {
      flat = subst (λ xs. IsFlat xs n) (sym all) f;
      within =
          let g = groups_are es [] (decode es) f.encoded in
          let t = stream_is es [] (decode es) f.encoded in
          let l : length (encode (front (groups_in es) (stream_in es))) ≡ length (encode (decode es)) = λ i. length (encode (front (g i) (t i))) in
          omega (arith, e, l, ap length f.encoded);
    }

pub flat_is : (es : List Entry) (n m : ℕ) → IsFlat es n → m ≡ length es → building m es ≡ record { before = decode es; open_groups = []; stream = decode es }
flat_is es n m f e =
    let all : take m es ≡ es = ap (λ j. take j es) e ∙ take_all (length es) es (omega arith) in
    λ i. record { before = decode (all i); open_groups = groups_are es [] (decode es) f.encoded i; stream = stream_is es [] (decode es) f.encoded i }

-- no more trees than entries
pub few_built : (es : List Entry) (ps : List Pending) (n : ℕ) → IsBuilt es ps n → n ≤ length es
few_built es ps n b =
    let s = (stream_in es) in
    omega (arith, b.counted, length_encode s, longer (groups_in es) s, ap length b.encoded)

-- MORE TREES

module _ (es : List Entry) (ps : List Pending) (n : ℕ) (b : IsBuilt es ps n) (fs : List Entry) (t : ℕ) (h : IsFlat fs t) where
  joined_laid : es ++ fs ≡ laid (groups_in es) (stream_in es ⧺ decode fs)
  joined_laid = (λ i. b.encoded i ++ h.encoded i) ∙ laid_more (groups_in es) (stream_in es) (decode fs)

  pub joined_built : IsBuilt (es ++ fs) ps (n + t)
  joined_built =
      is_built (es ++ fs) ps (n + t) (groups_in es) (stream_in es ⧺ decode fs) joined_laid b.placed
      (omega (arith, b.counted, h.counted, length-append_streams (stream_in es) (decode fs)))

  module _ (m k : ℕ) (a : IsBegun m k es) where
    joined_kept : take m (es ++ fs) ≡ take m es
    joined_kept = take-append-le m es fs (begun_fits m k es a ps n b)

    pub joined_begun : IsBegun m k (es ++ fs)
    joined_begun = begun_on m k es a (es ++ fs) (groups_in es) (stream_in es ⧺ decode fs) joined_laid joined_kept (front_more (groups_in es) (stream_in es) (decode fs))

    pub joined_is : building m (es ++ fs) ≡ record (building m es) { stream = stream_in es ⧺ decode fs }
    joined_is = building_on m k es a (es ++ fs) (groups_in es) (stream_in es ⧺ decode fs) joined_laid joined_kept

-- AN OPENING SIGN

abbrev pub group_from : Delimiter → Span → Stream → OpenGroup
group_from d o s = record { delimiter = d; opening = o; outer = s }

module _ (es : List Entry) (ps : List Pending) (n : ℕ) (b : IsBuilt es ps n) (d : Delimiter) (o : Span) where
  opened_laid : es ++ open_delimiter (group_from d o end) ∷ [] ≡ laid ((groups_in es) ++ group_from d o (stream_in es) ∷ []) end
  opened_laid =
      ap (λ fs. fs ++ open_delimiter (group_from d o end) ∷ []) b.encoded
      ∙ sym (laid_open (groups_in es) (group_from d o (stream_in es)) end)

  pub opened_built : (p : Pending) → p ≡ record { delimiter = d; opening = o; at = length es; trees = n } →
      IsBuilt (es ++ open_delimiter (group_from d o end) ∷ []) (ps ++ p ∷ []) 0
  opened_built p e =
      let k : length es ≡ 0 + length (laid (groups_in es) (stream_in es)) = omega (arith, ap length b.encoded) in
      is_built (es ++ open_delimiter (group_from d o end) ∷ []) (ps ++ p ∷ []) 0 ((groups_in es) ++ group_from d o (stream_in es) ∷ []) end opened_laid
      ((λ i. b.placed i ++ e i ∷ [])
      ∙ (λ i. places 0 (groups_in es) ++ record { delimiter = d; opening = o; at = k i; trees = b.counted i } ∷ [])
      ∙ sym (places_open 0 (groups_in es) (group_from d o (stream_in es))))
      refl

  module _ (m k : ℕ) (a : IsBegun m k es) where
    opened_kept : take m (es ++ open_delimiter (group_from d o end) ∷ []) ≡ take m es
    opened_kept = take-append-le m es (open_delimiter (group_from d o end) ∷ []) (begun_fits m k es a ps n b)

    pub opened_begun : IsBegun m k (es ++ open_delimiter (group_from d o end) ∷ [])
    opened_begun =
        begun_on m k es a (es ++ open_delimiter (group_from d o end) ∷ []) (groups_in es ++ group_from d o (stream_in es) ∷ []) end opened_laid opened_kept
        (omega (arith, ap (λ s. length (encode s)) (front_open (groups_in es) (group_from d o (stream_in es)) end)))

    pub opened_is : building m (es ++ open_delimiter (group_from d o end) ∷ []) ≡ record (building m es) { open_groups = groups_in es ++ group_from d o (stream_in es) ∷ []; stream = end }
    opened_is = building_on m k es a (es ++ open_delimiter (group_from d o end) ∷ []) (groups_in es ++ group_from d o (stream_in es) ∷ []) end opened_laid opened_kept

-- A CLOSING SIGN

-- the last of these groups is closed
innermost_is : (x : OpenGroup) (gs : List OpenGroup) (g : OpenGroup) → innermost x (gs ++ g ∷ []) ≡ g
innermost_is x [] g = refl
innermost_is x (h ∷ gs) g = innermost_is h gs g

around_is : (x : OpenGroup) (gs : List OpenGroup) (g : OpenGroup) → around x (gs ++ g ∷ []) ≡ x ∷ gs
around_is x [] g = refl
around_is x (h ∷ gs) g = ap (λ hs. x ∷ hs) (around_is h gs g)

pub closed_last : (before : Stream) (gs : List OpenGroup) (g : OpenGroup) (c : grammar_span.Span) (s : Stream) →
    closed_in before (gs ++ g ∷ []) c s ≡ record { before = before; open_groups = gs; stream = g.outer ⧺ group (delimiter_of g.delimiter) (at g.opening) c s end }
closed_last before [] g c s = refl
closed_last before (h ∷ gs) g c s =
    λ i. record {
      before = before;
      open_groups = around_is h gs g i;
      stream = (innermost_is h gs g i).outer ⧺ group (delimiter_of (innermost_is h gs g i).delimiter) (at (innermost_is h gs g i).opening) c s end;
    }

pub one_open : (gs : List OpenGroup) (g : OpenGroup) → is_open_in (gs ++ g ∷ []) ≡ true
one_open [] g = refl
one_open (h ∷ gs) g = refl

open_where : (ps : List Pending) (gs : List OpenGroup) → ps ≡ places 0 gs → not (nat_eq (length ps) 0) ≡ is_open_in gs
open_where [] [] e = refl
open_where [] (g ∷ gs) e = absurd (cc)
open_where (p ∷ ps) [] e = absurd (cc)
open_where (p ∷ ps) (g ∷ gs) e = ap not (eqb-suc-zero (length ps))

-- a group is open exactly where one is pending
pub open_pending : (m : ℕ) (es : List Entry) (ps : List Pending) (n : ℕ) (now : Building) (empty : Bool) → IsBuilt es ps n → building m es ≡ now → empty ≡ nat_eq (length ps) 0 → not empty ≡ is_open now
unfolding is_open
open_pending m es ps n now empty b v e = ap not e ∙ open_where ps (groups_in es) b.placed ∙ ap (λ (x : Building). is_open_in x.open_groups) v

-- the innermost open group
pub kept_last : (es : List Entry) (ps : List Pending) (n : ℕ) → IsBuilt es ps n → (around : List Pending) (p : Pending) → ps ≡ around ++ p ∷ [] → Last 0 (groups_in es) around p
kept_last es ps n b around p e = last_place 0 (groups_in es) around p (sym b.placed ∙ e)

module _ (es : List Entry) (ps : List Pending) (n : ℕ) (b : IsBuilt es ps n) (around : List Pending) (p : Pending) (e : ps ≡ around ++ p ∷ []) where
  here : p.at ≡ length (laid (kept_last es ps n b around p e).around (kept_last es ps n b around p e).innermost.outer)
  here = let l = kept_last es ps n b around p e in omega (arith, ap (λ (q : Pending). q.at) l.here)

  whole : es ≡ laid ((kept_last es ps n b around p e).around ++ (kept_last es ps n b around p e).innermost ∷ []) (stream_in es)
  whole = let l = kept_last es ps n b around p e in b.encoded ∙ ap (λ gs. laid gs (stream_in es)) l.is

  -- its opening delimiter comes before all that was added later
  pub is_before : p.at + 1 ≤ length es
  is_before =
      let l = kept_last es ps n b around p e in
      omega (arith, here, ap length whole, length_laid l.around l.innermost (stream_in es))

  -- the trees around it are no more than the entries
  pub few_around : p.trees ≤ p.at
  few_around =
      let l = kept_last es ps n b around p e in
      let counted : p.trees ≡ grammar.length l.innermost.outer = ap (λ (q : Pending). q.trees) l.here in
      omega (arith, here, counted, length_encode l.innermost.outer, longer l.around l.innermost.outer)

  module _ (c : Span) (skip : ℕ) (h : skip ≡ length es - p.at - 1) where
    abbrev pub closed_entries : List Entry
    closed_entries =
        set (es ++ E.Close (record { delimiter = p.delimiter; span = c; trees = n }) ∷ []) p.at
        (E.Open (record { delimiter = p.delimiter; span = p.opening; skip = skip }))

    closed_laid : closed_entries ≡ laid (kept_last es ps n b around p e).around ((kept_last es ps n b around p e).innermost.outer ⧺ closed (kept_last es ps n b around p e).innermost c (stream_in es))
    closed_laid =
        let l = kept_last es ps n b around p e in
        let k = here in
        let w = whole in
        let s : skip ≡ length (encode (stream_in es)) = omega (arith, h, k, ap length w, length_laid l.around l.innermost (stream_in es)) in
        (λ i. set (w i ++ E.Close (record { delimiter = (l.here i).delimiter; span = c; trees = b.counted i }) ∷ []) (k i)
        (E.Open (record { delimiter = (l.here i).delimiter; span = (l.here i).opening; skip = s i })))
        ∙ laid_closed l.around l.innermost c (stream_in es)

    pub closed_built : IsBuilt closed_entries around (p.trees + 1)
    closed_built =
        let l = kept_last es ps n b around p e in
        let counted : p.trees ≡ grammar.length l.innermost.outer = ap (λ (q : Pending). q.trees) l.here in
        is_built closed_entries around (p.trees + 1) l.around (l.innermost.outer ⧺ closed l.innermost c (stream_in es)) closed_laid l.before
        (omega (arith, counted, length-append_streams l.innermost.outer (closed l.innermost c (stream_in es))))

    module _ (m k : ℕ) (a : IsBegun m k es) where
      before_sign : m ≤ p.at
      before_sign =
          let l = kept_last es ps n b around p e in
          let fg = ap (λ gs. length (encode (front gs (stream_in es)))) l.is in
          omega (arith, a.within, fg, ap (λ s. length (encode s)) (front_open l.around l.innermost (stream_in es)), front_fits l.around l.innermost.outer, here)

      closed_kept : take m closed_entries ≡ take m es
      closed_kept =
          take-set-le m (es ++ E.Close (record { delimiter = p.delimiter; span = c; trees = n }) ∷ []) p.at (E.Open (record { delimiter = p.delimiter; span = p.opening; skip = skip })) before_sign
          ∙ take-append-le m es (E.Close (record { delimiter = p.delimiter; span = c; trees = n }) ∷ []) (begun_fits m k es a ps n b)

      pub closed_begun : IsBegun m k closed_entries
      closed_begun =
          let l = kept_last es ps n b around p e in
          let fg = ap (λ gs. length (encode (front gs (stream_in es)))) l.is in
          begun_on m k es a closed_entries l.around (l.innermost.outer ⧺ closed l.innermost c (stream_in es)) closed_laid closed_kept
          (omega (arith, fg, ap (λ s. length (encode s)) (front_open l.around l.innermost (stream_in es)), front_more l.around l.innermost.outer (closed l.innermost c (stream_in es))))

      pub closed_is : (now : Building) → building m es ≡ now → building m closed_entries ≡ closed_in now.before now.open_groups (at c) now.stream
      closed_is now v =
          let l = kept_last es ps n b around p e in
          building_on m k es a closed_entries l.around (l.innermost.outer ⧺ closed l.innermost c (stream_in es)) closed_laid closed_kept
          ∙ sym (closed_last (decode (take m es)) l.around l.innermost (at c) (stream_in es))
          ∙ ap (λ gs. closed_in (decode (take m es)) gs (at c) (stream_in es)) (sym l.is)
          ∙ ap (λ (x : Building). closed_in x.before x.open_groups (at c) x.stream) v

-- no such group is open
last_same : (gs hs : List OpenGroup) (g h : OpenGroup) → gs ++ g ∷ [] ≡ hs ++ h ∷ [] → g ≡ h
last_same [] [] g h e = cc
last_same [] (x ∷ hs) g h e = absurd (omega (arith, ap length e, length-append hs (h ∷ [])))
last_same (x ∷ gs) [] g h e = absurd (omega (arith, ap length e, length-append gs (g ∷ [])))
last_same (x ∷ gs) (y ∷ hs) g h e = let others : gs ++ g ∷ [] ≡ hs ++ h ∷ [] = cc in last_same gs hs g h others

no_items : (ps : List Pending) → length ps ≡ 0 → ps ≡ []
no_items [] z = refl
no_items (p ∷ ps) z = absurd (omega arith)

pub none_kept : (m : ℕ) (es : List Entry) (ps : List Pending) (n : ℕ) (d : Delimiter) (now : Building) → IsBuilt es ps n → length ps ≡ 0 → building m es ≡ now → NotOpen d now
none_kept m es ps n d now b z v around g e h =
    let none : now.open_groups ≡ [] = ap (λ (x : Building). x.open_groups) (sym v) ∙ none_open 0 (groups_in es) (sym (no_items ps z) ∙ b.placed) in
    absurd (omega (arith, ap length (sym none ∙ e), length-append around (g ∷ [])))

pub other_kept : (m : ℕ) (es : List Entry) (ps : List Pending) (n : ℕ) (around : List Pending) (p : Pending) (d : Delimiter) (now : Building) →
    IsBuilt es ps n → ps ≡ around ++ p ∷ [] → building m es ≡ now → (p.delimiter ≡ d → ⊥) → NotOpen d now
other_kept m es ps n around p d now b e v other outer g was h =
    let l = kept_last es ps n b around p e in
    let same = last_same outer l.around g l.innermost (sym was ∙ ap (λ (x : Building). x.open_groups) (sym v) ∙ l.is) in
    other (ap (λ (q : Pending). q.delimiter) l.here ∙ ap (λ (x : OpenGroup). x.delimiter) (sym same) ∙ h)

-- nothing to close
pub closed_nothing : (m : ℕ) (es : List Entry) (ps : List Pending) (n : ℕ) (now : Building) (c : grammar_span.Span) → IsBuilt es ps n → length ps ≡ 0 → building m es ≡ now → now ≡ out_of_group c now
unfolding out_of_group
closed_nothing m es ps n now c b z v =
    let none : now.open_groups ≡ [] = ap (λ (x : Building). x.open_groups) (sym v) ∙ none_open 0 (groups_in es) (sym (no_items ps z) ∙ b.placed) in
    (λ i. record { before = now.before; open_groups = none i; stream = now.stream }) ∙ ap (λ gs. closed_in now.before gs c now.stream) (sym none)

module _ (m : ℕ) (es : List Entry) (ps : List Pending) (n : ℕ) (b : IsBuilt es ps n) (around : List Pending) (p : Pending) (e : ps ≡ around ++ p ∷ []) (now : Building) (v : building m es ≡ now) where
  last_group : now.open_groups ≡ (kept_last es ps n b around p e).around ++ (kept_last es ps n b around p e).innermost ∷ []
  last_group = ap (λ (x : Building). x.open_groups) (sym v) ∙ (kept_last es ps n b around p e).is

  -- a group is open
  pub last_open : is_open now ≡ true
  unfolding is_open
  last_open = let l = kept_last es ps n b around p e in ap is_open_in last_group ∙ one_open l.around l.innermost

  -- the innermost is closed
  pub closes_last : (d : Delimiter) (c : Span) → p.delimiter ≡ d → (new : Building) → new ≡ out_of_group (at c) now → Closes d c now new
  unfolding out_of_group
  closes_last d c same new is =
      let l = kept_last es ps n b around p e in
      let there : l.innermost.delimiter ≡ d = ap (λ (q : Pending). q.delimiter) (sym l.here) ∙ same in
      record {
        around = l.around;
        innermost = l.innermost;
        was = last_group;
        delimits = there;
        is =
            is
            ∙ ap (λ gs. closed_in now.before gs (at c) now.stream) last_group
            ∙ closed_last now.before l.around l.innermost (at c) now.stream
            ∙ ap (λ f. record { before = now.before; open_groups = l.around; stream = l.innermost.outer ⧺ group (delimiter_of f) (at l.innermost.opening) (at c) now.stream end }) there;
      }

pub reported : (s : Span) (reason : Type 0) (e : ErrorValue) → e ≡ unbalanced s → reason → IsUnbalanced s reason e
reported s reason e is r = subst (IsUnbalanced s reason) (sym is) (refl, r)

-- THE END

module _ (es : List Entry) (ps : List Pending) (n : ℕ) (b : IsBuilt es ps n) where
  pub none_left : length ps ≡ 0 → groups_in es ≡ []
  none_left z = none_open 0 (groups_in es) (sym (no_items ps z) ∙ b.placed)

  module _ (z : groups_in es ≡ []) where
    finished_laid : es ≡ encode (stream_in es)
    finished_laid = b.encoded ∙ ap (λ gs. laid gs (stream_in es)) z

    pub finished_flat : IsFlat es n
    finished_flat = is_flat es (stream_in es) n finished_laid b.counted

    pub finished_is : decode es ≡ stream_in es
    finished_is = decoded es (stream_in es) finished_laid

-- the outermost open group
pub record First (gs : List OpenGroup) (p : Pending) : Type 0 where
  pub outermost : OpenGroup
  pub inside : List OpenGroup
  pub is : gs ≡ outermost ∷ inside
  pub present : p.opening ≡ outermost.opening

pub first_place : (gs : List OpenGroup) (p : Pending) (ps : List Pending) → p ∷ ps ≡ places 0 gs → First gs p
first_place [] p ps e = absurd (cc)
first_place (g ∷ gs) p ps e =
    let here : p ≡ pending (0 + length (encode g.outer)) g = cc in
    record { outermost = g; inside = gs; is = refl; present = ap (λ (q : Pending). q.opening) here }
