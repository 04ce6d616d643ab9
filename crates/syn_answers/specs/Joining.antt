-- WHAT `join_items` PROMISES, of any error type with its refusals.
use Rattle.std.specs.Prelude.{◌≡◌, ◌⊎◌, true, List, [], ◌∷◌, Result, Ok, Err}
use Rattle.syn_grammar.specs.Tokens.{Stream, ◌⧺◌, visible}
use Rattle.syn_grammar.specs.Rules.{item}
use Rattle.syn_grammar.specs.Grammar.{Syntax}
use Rattle.syn_grammar.specs.Joined.{prints, AllDerived, AllVisible, IsFileOf}
use Rattle.syn_grammar.specs.Promises.{Refused}

-- from each piece an item is derived, and p is their prints in order; from p in turn a file is derived without attributes, whose items have
-- the same normal forms
pub record IsJoined (pieces : List Stream) (p : Stream) : Type 0 where
  pub trees : List Syntax
  pub derived : AllDerived pieces trees
  pub in_order : p ≡ prints trees
  pub seen : visible p ≡ true
  pub as_a_file : IsFileOf p trees

-- from some piece no item is derived
abbrev pub SomeRefused : List Stream → Type 0
SomeRefused [] = ⊥
SomeRefused (a ∷ l) = Refused item a ⊎ SomeRefused l

abbrev pub JoinOutcome : {E : Type 0} → (E → Type 0) → List Stream → Result Stream E → Type 0
JoinOutcome refusal pieces (Ok p) = AllVisible pieces → IsJoined pieces p
JoinOutcome refusal pieces (Err e) = AllVisible pieces → refusal e → SomeRefused pieces

-- IN A LOOP: these prints were joined, and these pieces are left. The prints of what is derived from them follow those that were joined;
-- and if one of them is refused, so is some piece.
pub record JoinedSoFar (pieces rest : List Stream) (joined : Stream) : Type 0 where
  pub onward : (trees : List Syntax) → AllDerived rest trees → (all : List Syntax) × AllDerived pieces all × (prints all ≡ joined ⧺ prints trees)
  pub back : SomeRefused rest → SomeRefused pieces
