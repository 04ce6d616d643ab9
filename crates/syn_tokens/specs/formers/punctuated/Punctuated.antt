-- `Punctuated` as a type constructor for recursive types, by its values.
use Rattle.std.specs.Prelude.{◌≡◌, ◌+◌, ◌<◌, ◌^◌, List, [], ◌∷◌, ◌++◌, length, map, Option, Some, None}
use mathlib.Core.Path.{refl, sym, ap, subst}
use mathlib.Core.Logic.{◌⊎◌, inl, inr}
use mathlib.Core.Former.{Former, this, const, pair, or, list, via, children}
use native.Mathlib.Bridge.{le_prop}
use lib.ListN.{length-map}
use base.Stored.{gnil, gcons, gnum, code_l, code_map, coded×}
use base.Fml.{ftrue}
use denote.RattleType.{RattleType}
use denote.Memory.{part_of}
use denote.RawPtr.{Ptr}
use denote.Sharing.{nothing}
use denote.HoleLaws.{Alike}
use denote.HolePlaces.{Recodes, struct_places, enum_places, eachs, laid, stays, one_value}
use denote.Hole.Carrier.{listed as carried}
use denote.Hole.Fix.{over}
use denote.Param.Weighed.{Weighed, w_const, w_pair, w_or, w_list, w_via}
use denote.Model.Placed.{held, view_places}
use denote.Struct.Tuple.{Tuple, tuple_type}
use Rattle.std.specs.Coded.{coded_option}
use Rattle.std.specs.formers.vec.Vec as vec
use Rattle.std.specs.declared.boxed.Box.{Box}
use Rattle.std.specs.contracts.boxed.Box as box
use Rattle.std.specs.contracts.option.Option as option
use Rattle.std.specs.declared.alloc.Global.{Global}
use Rattle.std.specs.contracts.alloc.Global as heap
use Rattle.std.specs.contracts.impls.GlobalAllocator.TheImpl.{ghosts}
use Rattle.syn_tokens.specs.declared.punctuated.Punctuated.TheInside.{Inside}
use Rattle.syn_tokens.specs.declared.punctuated.Punctuated.TheView.{view, invariant}
use Rattle.syn_tokens.specs.contracts.punctuated.Punctuated as C
use Rattle.syn_tokens.specs.contracts.punctuated.Punctuated.TheInside as I
use Rattle.syn_tokens.specs.Lists.{Sequence, values, firsts, listed}

-- OPTIONS

module _ {X : Type 0} where
  abbrev split : Option X → Unit {0} ⊎ X
  split None = inl tt
  split (Some x) = inr x

  abbrev join : Unit {0} ⊎ X → Option X
  join (inl u) = None
  join (inr x) = Some x

  pub join-split : (o : Option X) → join (split o) ≡ o
  join-split None = refl
  join-split (Some x) = refl

  pub split-join : (o : Unit {0} ⊎ X) → split (join o) ≡ o
  split-join (inl u) = refl
  split-join (inr x) = refl

abbrev options : Former {0} → Former {0}
options g = via (or (const (Unit {0})) g) (λ X. Option (g.Of X)) (λ X. split) (λ X. join) (λ X. join-split) (λ X. split-join)

-- THE VALUES

abbrev pub the_former : Former {0} → Type 0 → Former {0}
the_former g P = via (pair (list (pair g (const P))) (options g)) (λ X. Sequence (g.Of X) P) (λ X s. (s.pairs, s.last)) (λ X v. record { pairs = v.0; last = v.1 }) (λ X s. refl) (λ X v. refl)

abbrev pub the_weighed : {g : Former {0}} → Weighed g → (P : Type 0) → Weighed (the_former g P)
the_weighed {g} w P =
    w_via (w_pair (w_list (w_pair w (w_const P))) (w_via (w_or (w_const (Unit {0})) w) (λ X. Option (g.Of X)) (λ X. split) (λ X. join) (λ X. join-split) (λ X. split-join)))
    (λ X. Sequence (g.Of X) P) (λ X s. (s.pairs, s.last)) (λ X v. record { pairs = v.0; last = v.1 }) (λ X s. refl) (λ X v. refl)

pub the_empty : (P : Type 0) → P → Sequence ⊥ P
the_empty P p = record { pairs = []; last = None }

abbrev pub the_items : (P X : Type 0) → Sequence X P → List X
the_items P X s = values s

pub the_items_listed : (P X : Type 0) (s : Sequence X P) → carried _ (children (the_former this P) X s) ≡ the_items P X s
the_items_listed P X s = go s.pairs s.last
  where
    go : (l : List (X × P)) (o : Option X) → carried _ (children (the_former this P) X (record { pairs = l; last = o })) ≡ firsts l ++ listed o
    go [] None = refl
    go [] (Some x) = refl
    go (p ∷ l) o = ap (λ xs. p.0 ∷ xs) (go l o)

-- THE FIELDS

abbrev boxes : Former {0}
boxes = via (pair (const (Ptr × Global)) this) (λ X. Box X Global) (λ X b. ((b.ptr, b.alloc), b.value)) (λ X v. record { ptr = v.0.0; alloc = v.0.1; value = v.1 }) (λ X b. refl) (λ X v. refl)

abbrev fields : Type 0 → Former {0}
fields P = via (pair (vec.the_former (pair this (const P)) Global) (pair (options boxes) (const Global))) (λ X. Inside X P)
    (λ X a. (a.inner, (a.last, a.alloc))) (λ X v. record { inner = v.0; last = v.1.0; alloc = v.1.1 }) (λ X a. refl) (λ X v. refl)

module _ (P X : Type 0) where
  abbrev with_last : Inside X P → Option (Box X Global) → Inside X P
  with_last u o = record { inner = u.inner; last = o; alloc = u.alloc }

  keeps : (u : Inside X P) (o : Option (Box X Global)) → held (the_former this P) X (view X P (with_last u o)) ≡ held (fields P) X (with_last u o)
  keeps u None = refl
  keeps u (Some b) = refl

  natural : (Y : Type 0) (h : X → Y) (u : Inside X P) (o : Option (Box X Global)) → view Y P ((fields P).map X Y h (with_last u o)) ≡ (the_former this P).map X Y h (view X P (with_last u o))
  natural Y h u None = refl
  natural Y h u (Some b) = refl

abbrev box_of : RattleType → RattleType
box_of R = box.the_row R heap.the_row ghosts

module _ (P R S : RattleType) (h : R.Denot → S.Denot) where
  abbrev on_pair : R.Denot × P.Denot → S.Denot × P.Denot
  on_pair p = (h p.0, p.1)

  abbrev on_box : Box R.Denot Global → Box S.Denot Global
  on_box b = record { ptr = b.ptr; alloc = b.alloc; value = h b.value }

  abbrev on_option : Option (Box R.Denot Global) → Option (Box S.Denot Global)
  on_option = (options boxes).map R.Denot S.Denot h

  pair_places : Alike R S h → Alike (Tuple (R ∷ P ∷ [])) (Tuple (S ∷ P ∷ [])) on_pair
  pair_places a = struct_places (tuple_type (R ∷ P ∷ [])) (tuple_type (S ∷ P ∷ [])) (h, (λ p. p, tt)) on_pair (λ d. refl) refl (laid _ _ _ a, (stays P, tt))

  abbrev with_value : Box R.Denot Global → Box (Unit {0}) Global
  with_value b = record { ptr = b.ptr; alloc = b.alloc; value = tt }

  box_places : Alike R S h → Alike (box_of R) (box_of S) on_box
  unfolding part_of
  box_places a = record {
    mir_same = λ i. (box_of (one_value R (a.mir_same i) (λ _. ftrue) (λ _ _. nothing) gnil)).mir;
    own_same = λ b i. (box_of (one_value R (a.mir_same i) (a.own_same b.value i) (a.shr_same b.value i) gnil)).own_val (with_value b);
    shr_same = λ b i. (box_of (one_value R (a.mir_same i) (a.own_same b.value i) (a.shr_same b.value i) gnil)).shr_at (with_value b);
  }

  variant : (o : Option (Box R.Denot Global)) → (option.enum (box_of S)).as_values (on_option o) ≡ eachs (option.enum (box_of R)).parts (option.enum (box_of S)).parts (tt, ((on_box, tt), tt)) ((option.enum (box_of R)).as_values o)
  variant None = refl
  variant (Some b) = refl

  abbrev fits : {X : Type 0} → List X → Type 0
  fits l = length l + 1 < 2 ^ 64

  pub the_places : Alike R S h → Alike (C.the_row R P) (C.the_row S P) ((the_former this P.Denot).map R.Denot S.Denot h)
  the_places a =
      let of_last = enum_places (option.enum (box_of R)) (option.enum (box_of S)) (tt, ((on_box, tt), tt)) on_option variant refl (tt, ((laid _ _ _ (box_places a), tt), tt)) in
      let of_pairs = vec.the_places heap.the_row ghosts (Tuple (R ∷ P ∷ [])) (Tuple (S ∷ P ∷ [])) on_pair (pair_places a) in
      view_places (fields P.Denot) (the_former this P.Denot) (λ X. view X P.Denot) (λ X Y k u. natural P.Denot X Y k u u.last) (λ X u. keeps P.Denot X u u.last)
      R.Denot S.Denot h (C.the_row R P).coded (C.the_row S P).coded
      (invariant R.Denot P.Denot) (invariant S.Denot P.Denot) (λ u p q. le_prop p q) (λ u p q. le_prop p q)
      (λ u e. subst (λ n. n + 1 < 2 ^ 64) (sym (length-map u.inner.items on_pair)) e) (λ u e. subst (λ n. n + 1 < 2 ^ 64) (length-map u.inner.items on_pair) e)
      (over (I.the_row R P)) (over (I.the_row S P))
      (struct_places (I.the_type R P) (I.the_type S P) (vec.mapped on_pair, (on_option, (λ n. n, tt))) _ (λ d. refl) refl
      (laid _ _ _ of_pairs, (laid _ _ _ of_last, ((refl, (λ n. refl, λ n. refl)), tt))))

  recoded : Recodes R S h → (l : List (R.Denot × P.Denot)) (o : Option R.Denot)
      → (C.the_row S P).coded.code ((the_former this P.Denot).map R.Denot S.Denot h (record { pairs = l; last = o })) ≡ (C.the_row R P).coded.code (record { pairs = l; last = o })
  recoded e l o = λ i. gcons (of_pairs i) (of_last o i)
    where
      of_pairs : code_l (coded× S.coded P.coded).code (map on_pair l) ≡ code_l (coded× R.coded P.coded).code l
      of_pairs = sym (code_map (coded× R.coded P.coded).code (coded× S.coded P.coded).code on_pair (λ x i. gcons (sym (e x.0) i) (P.coded.code x.1)) l)

      of_last : (o : Option R.Denot) → (coded_option S.coded).code ((options this).map R.Denot S.Denot h o) ≡ (coded_option R.coded).code o
      of_last None = refl
      of_last (Some x) = λ i. gcons (gnum 1) (e x i)

  pub the_codes_placed : Recodes R S h → Recodes (C.the_row R P) (C.the_row S P) ((the_former this P.Denot).map R.Denot S.Denot h)
  the_codes_placed e s = recoded e s.pairs s.last
