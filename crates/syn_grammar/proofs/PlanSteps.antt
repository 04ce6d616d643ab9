-- The steps of a reader that follows a plan: the results of looks and what was read.
use Rattle.std.proofs.Common.{◌≡◌, Bool, true, false, List, [], ◌∷◌, Some, None, refl, sym, ap, ◌∙◌}
use Rattle.syn_grammar.specs.Words.{w_pub, w_fn, semicolon}
use Rattle.syn_grammar.specs.Tokens.{Stream, pick, Look, at_word}
use Rattle.syn_grammar.specs.Rules.{Rule, attributes, visibility, signature, body, function, item, kept_item}
use Rattle.syn_grammar.specs.Grammar.{holds, Syntax}
use Rattle.syn_grammar.specs.Forms.{punctuation}
use Rattle.syn_grammar.specs.Table.{at_semicolon}
use Rattle.syn_grammar.specs.Take.{lookahead_at, sees}
use Rattle.syn_grammar.specs.Run.{parse_rule, parse_form}
use Rattle.syn_grammar.specs.Plan.{Plan, reads, turns, tests, keeps, ends, done, fails, follow, by_test, kept_as, run_plan}
use Rattle.syn_grammar.specs.ItemPlan.{parts, item_of, hidden, kept_end, function_end, after_visibility, item_after, item_plan}
use Rattle.syn_grammar.proofs.Takes.{sees_answers}
use Rattle.syn_grammar.proofs.Known.{excludes, excludes_is, implies, implies_is, not_true}
use Rattle.syn_grammar.proofs.ItemPlan.{item_plan_is}

-- one step: the result of a look or a test; a mark; or this was read, and this is left
pub data Event : Type 0 where
  went : Bool → Event
  marked : Event
  took : Syntax → Stream → Event

-- on a plan's way from this stream this happens
abbrev pub Happens : List Event → Plan → Stream → Type 0
Happens [] p m = Unit {0}
Happens (went v ∷ l) (turns c p q) m = (sees c m ≡ v) × Happens l (pick v p q) m
Happens (went v ∷ l) (tests t s p q) m = (holds t s ≡ v) × Happens l (pick v p q) m
Happens (marked ∷ l) (keeps p) m = Happens l p m
Happens (took s r ∷ l) (reads g f) m = (parse_form g m ≡ Some (s, r)) × Happens l (f s) r
Happens _ _ m = ⊥

-- what is left then of the plan, and of the stream
abbrev pub left_over : List Event → Plan → Plan
left_over (went v ∷ l) (turns c p q) = left_over l (pick v p q)
left_over (went v ∷ l) (tests t s p q) = left_over l (pick v p q)
left_over (marked ∷ l) (keeps p) = left_over l p
left_over (took s r ∷ l) (reads g f) = left_over l (f s)
left_over _ p = p

abbrev pub after_all : List Event → Stream → Stream
after_all [] m = m
after_all (took s r ∷ l) m = after_all l r
after_all (e ∷ l) m = after_all l m

module _ (k : Rule) (ts : Stream) where
  by_way : (v : Bool) (p q : Plan) (m : Stream) → by_test v (run_plan p k ts m) (run_plan q k ts m) ≡ run_plan (pick v p q) k ts m
  by_way true p q m = refl
  by_way false p q m = refl

  pub happened : (l : List Event) (p : Plan) (m : Stream) → Happens l p m → run_plan p k ts m ≡ run_plan (left_over l p) k ts (after_all l m)
  happened [] p m h = refl
  happened (went v ∷ l) (turns c p q) m h = ap (λ v. by_test v (run_plan p k ts m) (run_plan q k ts m)) h.0 ∙ by_way v p q m ∙ happened l (pick v p q) m h.1
  happened (went v ∷ l) (tests t s p q) m h = ap (λ v. by_test v (run_plan p k ts m) (run_plan q k ts m)) h.0 ∙ by_way v p q m ∙ happened l (pick v p q) m h.1
  happened (marked ∷ l) (keeps p) m h = happened l p m h
  happened (took s r ∷ l) (reads g f) m h = ap (follow (λ s r. run_plan (f s) k ts r)) h.0 ∙ happened l (f s) r h.1
  happened (went v ∷ l) (reads g f) m h = elim h [ ]
  happened (went v ∷ l) (keeps p) m h = elim h [ ]
  happened (went v ∷ l) (ends s) m h = elim h [ ]
  happened (went v ∷ l) done m h = elim h [ ]
  happened (went v ∷ l) fails m h = elim h [ ]
  happened (marked ∷ l) (reads g f) m h = elim h [ ]
  happened (marked ∷ l) (turns c p q) m h = elim h [ ]
  happened (marked ∷ l) (tests t s p q) m h = elim h [ ]
  happened (marked ∷ l) (ends s) m h = elim h [ ]
  happened (marked ∷ l) done m h = elim h [ ]
  happened (marked ∷ l) fails m h = elim h [ ]
  happened (took s r ∷ l) (turns c p q) m h = elim h [ ]
  happened (took s r ∷ l) (tests t u p q) m h = elim h [ ]
  happened (took s r ∷ l) (keeps p) m h = elim h [ ]
  happened (took s r ∷ l) (ends u) m h = elim h [ ]
  happened (took s r ∷ l) done m h = elim h [ ]
  happened (took s r ∷ l) fails m h = elim h [ ]

  -- a piece is refused
  abbrev pub Refuses : Plan → Stream → Type 0
  Refuses (reads g f) m = parse_form g m ≡ None
  Refuses fails m = Unit {0}
  Refuses p m = ⊥

  pub refused_there : (p : Plan) (m : Stream) → Refuses p m → run_plan p k ts m ≡ None
  refused_there (reads g f) m h = ap (follow (λ s r. run_plan (f s) k ts r)) h
  refused_there fails m h = refl
  refused_there (turns c p q) m h = elim h [ ]
  refused_there (tests t s p q) m h = elim h [ ]
  refused_there (keeps p) m h = elim h [ ]
  refused_there (ends s) m h = elim h [ ]
  refused_there done m h = elim h [ ]

-- Where the one look holds, the other doesn't: where a word is known, the words before it in a plan need no test.
pub seen_apart : (c d : Look) (m : Stream) → excludes c d ≡ true → sees c m ≡ true → sees d m ≡ false
seen_apart c d m e h = not_true (sees d m) (λ i. excludes_is c d (lookahead_at m) e (sym (sees_answers c m) ∙ h) (sym (sees_answers d m) ∙ i))

-- And where it holds, this one does.
pub seen_along : (c d : Look) (m : Stream) → implies c d ≡ true → sees c m ≡ true → sees d m ≡ true
seen_along c d m e h = sees_answers d m ∙ implies_is c d (lookahead_at m) e (sym (sees_answers c m) ∙ h)

-- ---- AN EXAMPLE: a public function whose parts were read is an item of this value; with `;` in place of its body it is verbatim
module _ (ts m n r z : Stream) (a v s b : Syntax) (outer : parse_rule attributes ts ≡ Some (a, m)) (at_pub : sees (at_word w_pub) m ≡ true) (vis : parse_rule visibility m ≡ Some (v, n))
    (at_fn : sees (at_word w_fn) n ≡ true) (sig : parse_rule signature n ≡ Some (s, r)) where
  abbrev no : (c : Look) → excludes (at_word w_fn) c ≡ true → sees c n ≡ false
  no c e = seen_apart (at_word w_fn) c n e at_fn

  -- after the signature: eleven looks are tested before `fn`'s, and none of them holds at `fn`
  abbrev so_far : List Event
  so_far =
      took a m ∷ went true ∷ took v n ∷ went false ∷ went false ∷ went false ∷ went false ∷ went false ∷ went false ∷ went false ∷ went false ∷ went false ∷ went false ∷ went true ∷ took s r ∷ []

  up_to_signature : parse_rule item ts ≡ run_plan (function_end a v s) kept_item ts r
  unfolding item_plan item_after after_visibility
  up_to_signature =
      item_plan_is ts
      ∙ happened kept_item ts so_far item_plan ts
      (outer, (at_pub, (vis, (no _ refl, (no _ refl, (no _ refl, (no _ refl, (no _ refl, (no _ refl, (no _ refl, (no _ refl, (no _ refl, (no _ refl, (seen_along (at_word w_fn) _ n refl at_fn, (sig, tt)))))))))))))))

  pub function_read : sees at_semicolon r ≡ false → parse_rule body r ≡ Some (b, z) → parse_rule item ts ≡ Some (item_of function a (parts (v ∷ hidden ∷ s ∷ b ∷ [])), z)
  unfolding function_end
  function_read c e = up_to_signature ∙ happened kept_item ts (went false ∷ took b z ∷ []) (function_end a v s) r (c, (e, tt))

  pub function_kept : sees at_semicolon r ≡ true → (x : Syntax) → parse_form (punctuation semicolon) r ≡ Some (x, z) → parse_rule item ts ≡ Some (kept_as kept_item ts z, z)
  unfolding function_end kept_end
  function_kept c x e = up_to_signature ∙ happened kept_item ts (went true ∷ marked ∷ took x z ∷ []) (function_end a v s) r (c, (e, tt))
