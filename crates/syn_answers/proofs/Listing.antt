-- The items of a file are listed one by one.
use Rattle.std.proofs.Common.{◌≡◌, ℕ, ◌+◌, ◌<◌, ◌≤◌, Bool, true, false, Some, None, refl, sym, ap, ◌∙◌, subst, true≢false, arith}
use Rattle.std.specs.Prelude.{List, [], ◌∷◌, ◌++◌, map, Result, Ok, Err}
use Rattle.std.specs.Result.{IfErr, IsErrAnd}
use Rattle.std.proofs.lemmas.List.{map-append}
use Rattle.syn_grammar.specs.Tokens.{Stream, end, leaf, punct, group, ended, visible, or, pick}
use Rattle.syn_grammar.specs.Rules as rules
use Rattle.syn_grammar.specs.RuleNumbers.{same_rule}
use Rattle.syn_grammar.specs.Rules.{Rule}
use Rattle.syn_grammar.specs.Grammar.{Syntax, Node, among}
use Rattle.syn_grammar.specs.Table.{table}
use Rattle.syn_grammar.specs.Take.{left, length, sees}
use Rattle.syn_grammar.proofs.Run.{Less, parse_rule_less}
use Rattle.syn_grammar.proofs.Said.{start_of}
use Rattle.syn_grammar.specs.Run.{parse_rule}
use Rattle.syn_grammar.specs.EntryPoints.{IsKind, kinds_of}
use Rattle.syn_grammar.specs.Promises.{Refused}
use Rattle.syn_grammar.specs.Listed.{FileLists, ListedSoFar, Marker, a_word, a_bang, past, name_ahead}
use Rattle.syn_grammar.proofs.EntryPoints.{item_agrees, item_of_kind}
use Rattle.syn_grammar.proofs.RuleLemmas.{same_rule_eq}
use Rattle.syn_grammar.proofs.ListedItems.{listing_begins, listing_continues, listing_ends, listing_refused}
use Rattle.syn_tokens.specs.Cursors.{before_next}
use Rattle.syn_tokens.specs.declared.stream.cursor.TokenTreeRef.{TokenTreeRef}
use Rattle.syn_tokens.specs.declared.stream.cursor.TokenTreeRef.TheVariants as N
use Rattle.syn_tokens.specs.Faults.{ErrorValue, IsSyntaxError}
use Rattle.syn_parse.specs.Refusals.{IsSyntax, IsRefusedAs}
use Rattle.syn_parse.specs.declared.read.refusal.Refusal.{Refusal}
use Rattle.syn_parse.proofs.Refused.{refused_by_syntax}
use Rattle.syn_answers.specs.declared.list.ItemKind.{ItemKind}
use Rattle.syn_answers.specs.declared.list.ItemKind.TheVariants as K
use Rattle.syn_answers.specs.declared.list.ListedItem.{ListedItem}
use Rattle.syn_answers.specs.Listing.{rule_of, name_of, entry_of, NoneOf, marks}

-- ---- a marker
stepped : (m : Marker) (t : TokenTreeRef) (r : Stream) → past m (before_next t r) ≡ pick (marks m t) r (past m r)
stepped m (N.Ident i) r = refl
stepped (a_word w) (N.Literal l) r = refl
stepped a_bang (N.Literal l) r = refl
stepped m (N.Punct p) r = refl
stepped m (N.Group g) r = refl

-- after the marker; and after another tree
pub past_marker : (m : Marker) (t : TokenTreeRef) (ts r : Stream) → ts ≡ before_next t r → marks m t ≡ true → past m ts ≡ r
past_marker m t ts r e q = ap (past m) e ∙ stepped m t r ∙ ap (λ b. pick b r (past m r)) q

pub past_other : (m : Marker) (t : TokenTreeRef) (ts r : Stream) → ts ≡ before_next t r → marks m t ≡ false → past m ts ≡ past m r
past_other m t ts r e q = ap (past m) e ∙ stepped m t r ∙ ap (λ b. pick b r (past m r)) q

shorter : (t : TokenTreeRef) (r : Stream) → length (before_next t r) ≡ length r + 1
shorter (N.Ident i) r = omega arith
shorter (N.Literal l) r = omega arith
shorter (N.Punct p) r = omega arith
shorter (N.Group g) r = omega arith

pub one_shorter : (t : TokenTreeRef) (ts r : Stream) → ts ≡ before_next t r → length ts ≡ length r + 1
one_shorter t ts r e = ap length e ∙ shorter t r

none_left : (ts : Stream) → length ts ≡ 0 → ts ≡ end
none_left end e = refl
none_left (leaf x sp m) e = absurd (cc e)
none_left (punct c j sp m) e = absurd (cc e)
none_left (group d o c i m) e = absurd (cc e)

pub past_all : (m : Marker) (ts : Stream) (i n : ℕ) → n ≤ i → length ts + i ≡ n → past m ts ≡ end
past_all m ts i n h e = ap (past m) (none_left ts (omega (arith, h, e)))

-- ---- kinds
-- Written by tools/kinds.py down to the next such comment; edits are lost.
-- each kind is one of those of an item
pub is_kind : (kind : ItemKind) → IsKind rules.item (rule_of kind)
is_kind K.Const = refl
is_kind K.Enum = refl
is_kind K.ExternCrate = refl
is_kind K.Fn = refl
is_kind K.ForeignMod = refl
is_kind K.Impl = refl
is_kind K.Macro = refl
is_kind K.Mod = refl
is_kind K.Static = refl
is_kind K.Struct = refl
is_kind K.Trait = refl
is_kind K.TraitAlias = refl
is_kind K.Ty = refl
is_kind K.Union = refl
is_kind K.Use = refl
is_kind K.Verbatim = refl

-- End of the part that tools/kinds.py writes.

abbrev All : (Rule → Type 0) → List Rule → Type 0
All P [] = Unit {0}
All P (k ∷ ks) = P k × All P ks

one_of_all : (P : Rule → Type 0) (ks : List Rule) → All P ks → (k : Rule) → among k ks ≡ true → P k
one_of_all P [] a k i = absurd (true≢false (sym i))
one_of_all P (l ∷ ks) a k i = go (same_rule k l) refl (one_of_all P ks a.1 k) i
  where
    go : (b : Bool) → same_rule k l ≡ b → (among k ks ≡ true → P k) → or b (among k ks) ≡ true → P k
    go true e others i = subst P (sym (same_rule_eq k l e)) a.0
    go false e others i = others i

-- an item that this rule reads is also read as a verbatim item
abbrev Kept : Stream → Stream → Rule → Type 0
Kept ts r k = (t : Syntax) → parse_rule k ts ≡ Some (Node t, r) → (u : Syntax) × (parse_rule rules.kept_item ts ≡ Some (u, r))

-- Written by tools/kinds.py down to the next such comment; edits are lost.
-- an item that none of the kinds reads is read as a verbatim item
pub kept : (ts : Stream) (s : Syntax) (r : Stream) → parse_rule rules.item ts ≡ Some (s, r) → NoneOf (K.Fn ∷ K.Struct ∷ K.Impl ∷ K.Enum ∷ K.Use ∷ []) ts →
    NoneOf (K.Const ∷ K.Mod ∷ K.Trait ∷ K.Ty ∷ K.Macro ∷ []) ts → NoneOf (K.Static ∷ K.ExternCrate ∷ K.ForeignMod ∷ K.Union ∷ K.TraitAlias ∷ []) ts → (t : Syntax) × (parse_rule rules.kept_item ts ≡ Some (t, r))
kept ts s r e a b c =
    let (k, t, i, q) = item_of_kind ts s r e in
    let f = ((item_agrees k ts t r).0 (e ∙ ap (λ z. Some (z, r)) q)).1 in
    one_of_all (Kept ts r) (kinds_of (table rules.item)) all k i t f
  where
    no : (k : Rule) → parse_rule k ts ≡ None → Kept ts r k
    no k e t f = absurd (cc (sym e ∙ f))

    all : All (Kept ts r) (kinds_of (table rules.item))
    all = (no rules.structure a.1.0, (no rules.enumeration a.1.1.1.0, (no rules.union_item c.1.1.1.0, (no rules.function a.0, (no rules.const_item b.0, (no rules.static_item c.0, (no rules.extern_crate c.1.0, (no rules.use_item a.1.1.1.1.0, (no rules.module_item b.1.0, (no rules.trait_alias c.1.1.1.1.0, (no rules.type_item b.1.1.1.0, (no rules.macro_as_item b.1.1.1.1.0, (no rules.trait_definition b.1.1.0, (no rules.impl_definition a.1.1.0, (no rules.foreign_module c.1.1.0, (λ t f. (Node t, f), tt))))))))))))))))

-- End of the part that tools/kinds.py writes.

-- ---- a list
pub begun : (ts m r : Stream) (l : List ListedItem) → m ≡ ts → l ≡ [] → ((a : Syntax) × (parse_rule rules.inner_attributes m ≡ Some (a, r))) → ListedSoFar ts (map entry_of l) r
begun ts m r l e q (a, f) = subst (λ z. ListedSoFar ts (map entry_of z) r) (sym q) (listing_begins ts a r (ap (parse_rule rules.inner_attributes) (sym e) ∙ f))

pub unbegun : (ts m : Stream) → m ≡ ts → parse_rule rules.inner_attributes m ≡ None → Refused rules.file ts
unbegun ts m e f = listing_refused.1 ts (ap (parse_rule rules.inner_attributes) (sym e) ∙ f)

pub gone_on : (ts : Stream) (l n : List ListedItem) (m : Stream) (i : ListedItem) (r : Stream) (b : Bool) → ListedSoFar ts (map entry_of l) m → b ≡ sees ended m → b ≡ false →
    ((s : Syntax) × (parse_rule (rule_of i.kind) m ≡ Some (s, r)) × (name_of i.name ≡ name_ahead (rule_of i.kind) m)) → n ≡ l ++ i ∷ [] → ListedSoFar ts (map entry_of n) r
gone_on ts l n m i r b h f e (s, p, q) g =
    let x = listing_continues ts (map entry_of l) m (rule_of i.kind) s r h (sym f ∙ e) (is_kind i.kind) p in
    subst (λ z. ListedSoFar ts z r) (ap (λ z. map entry_of l ++ (rule_of i.kind, z) ∷ []) (sym q) ∙ sym (map-append entry_of l (i ∷ [])) ∙ ap (map entry_of) (sym g)) x

-- an item has some token
some_token : (k : ItemKind) → (start_of (rule_of k)).nullable ≡ false
some_token K.Const = refl
some_token K.Enum = refl
some_token K.ExternCrate = refl
some_token K.Fn = refl
some_token K.ForeignMod = refl
some_token K.Impl = refl
some_token K.Macro = refl
some_token K.Mod = refl
some_token K.Static = refl
some_token K.Struct = refl
some_token K.Trait = refl
some_token K.TraitAlias = refl
some_token K.Ty = refl
some_token K.Union = refl
some_token K.Use = refl
some_token K.Verbatim = refl

pub item_less : (k : ItemKind) (s : Syntax) (ts r : Stream) → parse_rule (rule_of k) ts ≡ Some (s, r) → left r < left ts
item_less k s ts r e = subst (λ b. Less b ts r) (some_token k) (parse_rule_less (rule_of k) ts (s, r) e)

pub ends : (ts : Stream) (l : List ListedItem) (m : Stream) → ListedSoFar ts (map entry_of l) m → sees ended m ≡ true → FileLists ts (map entry_of l)
ends ts l m = listing_ends ts (map entry_of l) m

pub refused : (ts : Stream) (l : List ListedItem) (m : Stream) (b : Bool) → ListedSoFar ts (map entry_of l) m → b ≡ sees ended m → b ≡ false → parse_rule rules.item m ≡ None → Refused rules.file ts
refused ts l m b h f e = listing_refused.0 ts (map entry_of l) m h (sym f ∙ e)

pub same_err : {X : Type 0} (r : Result X Refusal) (e : Refusal) (P : Type 0) → IsErrAnd r (λ f. f ≡ e) → (IsSyntax e → P) → IfErr r (λ f. IsSyntax f → P)
same_err (Ok x) e P h n = absurd h
same_err (Err f) e P h n = λ s. n (subst IsSyntax h s)

pub listed_err : {X : Type 0} (ts : Stream) (r : Result X ErrorValue) (e : Refusal) → IsErrAnd r (λ f. IsRefusedAs e f) → (IsSyntax e → Refused rules.file ts) →
    IfErr r (λ f. visible ts ≡ true → IsSyntaxError f → Refused rules.file ts)
listed_err ts (Ok x) e h n = absurd h
listed_err ts (Err f) e h n = λ v s. n (refused_by_syntax e f h s)
