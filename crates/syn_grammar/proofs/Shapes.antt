-- A sum over a tree's parts in their order doesn't depend on how values are built.
use Rattle.std.proofs.Common.{◌≡◌, ℕ, Bool, true, false, List, refl, sym, ap, ap₂, ◌∙◌}
use Rattle.syn_grammar.specs.Tokens.{Span, Stream, end, ◌⧺◌, and, pick, Paren, Bracket}
use Rattle.syn_grammar.specs.Rules.{Rule, kept_item}
use Rattle.syn_grammar.specs.Shape.{Variant, Path, Struct, Binary, Assign, Cast, Verbatim, Macro, Shape, expr, operand, bracketed, after_it, operator, dotted, fields, choice, chain, leading, labelled, attributed, listed, lone, said, said_macro, a_local, an_item, untagged, parameters, based, single}
use Rattle.syn_grammar.specs.Grammar.{Syntax, Nothing, Mark, Both, Left, Right, Node, Case, Such, Group, Raw, Captured, Shaped, Unshown, More, vacant, ends_brace, show, sort, following, renew}
use Rattle.syn_grammar.specs.Values.{no_attributes, new, core, variant_of, member_variant, literal_of, onto, chained, attributes_before, with_attributes, led, with_label, label, moved, with_outer, kept_whole, whole_item, sentence, alone, state, stated, no_statements, listing, going_on, go_on, in_list, separated, untag, no_members, one_member, more_members, member, ellipsis_of, after_colon, typed, parameter_of, parameters_of, no_base, literal_fields_of, shape}
use Rattle.syn_grammar.proofs.Streams.{append_end, append_append}

pub record IsSum (M : Type 0) (op : M → M → M) (m : Syntax → M) : Type 0 where
  pub both : (s t : Syntax) → m (Both s t) ≡ op (m s) (m t)
  pub left : (s : Syntax) → m (Left s) ≡ m s
  pub right : (s : Syntax) → m (Right s) ≡ m s
  pub node : (s : Syntax) → m (Node s) ≡ m s
  pub shaped : (j : Shape) (s : Syntax) → m (Shaped j s) ≡ m s
  pub unshown : m (Unshown Nothing) ≡ m Nothing
  pub then_none : (s : Syntax) → op (m s) (m Nothing) ≡ m s
  pub none_then : (s : Syntax) → op (m Nothing) (m s) ≡ m s
  pub regrouped : (s t u : Syntax) → op (op (m s) (m t)) (m u) ≡ op (m s) (op (m t) (m u))
  pub named : (k : Rule) (s : Syntax) → m (Case k s) ≡ m s
  pub no_tokens : (xs : List (ℕ × Span)) → op (m (Captured Nothing end)) (m (Mark xs)) ≡ m (Mark xs)

module _ {M : Type 0} {op : M → M → M} {m : Syntax → M} (law : IsSum M op m) where
  pair : (s s' t t' : Syntax) → m s ≡ m s' → m t ≡ m t' → m (Both s t) ≡ m (Both s' t')
  pair s s' t t' e f = law.both s t ∙ ap₂ op e f ∙ sym (law.both s' t')

  regroup : (s t u : Syntax) → m (Both (Both s t) u) ≡ m (Both s (Both t u))
  regroup s t u =
      law.both (Both s t) u ∙ ap (λ z. op z (m u)) (law.both s t) ∙ law.regrouped s t u ∙ ap (op (m s)) (sym (law.both t u)) ∙ sym (law.both s (Both t u))

  none_before : (n s : Syntax) → m n ≡ m Nothing → m (Both n s) ≡ m s
  none_before n s e = law.both n s ∙ ap (λ z. op z (m s)) e ∙ law.none_then s

  none_after : (s n : Syntax) → m n ≡ m Nothing → m (Both s n) ≡ m s
  none_after s n e = law.both s n ∙ ap (op (m s)) e ∙ law.then_none s

  no_attributes_sum : m no_attributes ≡ m Nothing
  no_attributes_sum = law.node (Right (Unshown Nothing)) ∙ law.right (Unshown Nothing) ∙ law.unshown

  new_sum : (v : Variant) (s : Syntax) → m (new v s) ≡ m s
  new_sum v s = law.shaped (expr v) (Both no_attributes s) ∙ none_before no_attributes s no_attributes_sum

  core_sum : (s : Syntax) → m (core s) ≡ m s
  core_sum (Node s) = core_sum s ∙ sym (law.node s)
  core_sum (Left s) = core_sum s ∙ sym (law.left s)
  core_sum (Right s) = core_sum s ∙ sym (law.right s)
  core_sum (Shaped j s) = refl
  core_sum s = law.shaped choice s

  literal_sum : (s p : Syntax) → m (literal_of s p) ≡ m (Both s p)
  literal_sum (Shaped (expr Path) (Both a s)) p =
      law.shaped (expr Struct) (Both a (Both s p)) ∙ sym (regroup a s p) ∙ pair (Both a s) (Shaped (expr Path) (Both a s)) p p (sym (law.shaped (expr Path) (Both a s))) refl
  literal_sum s p = law.shaped fields (Both s p)

  onto_sum : (a l : Syntax) → m (onto a l) ≡ m (Both a l)
  onto_sum a Nothing = sym (none_after a Nothing refl)
  onto_sum a (Node l) = onto_sum a l ∙ pair a a l (Node l) refl (sym (law.node l))
  onto_sum a (Left l) = onto_sum a l ∙ pair a a l (Left l) refl (sym (law.left l))
  onto_sum a (Right l) = onto_sum a l ∙ pair a a l (Right l) refl (sym (law.right l))
  onto_sum a (Both l k) = onto_sum (onto a l) k ∙ pair (onto a l) (Both a l) k k (onto_sum a l) refl ∙ regroup a l k
  onto_sum a (Shaped (after_it v) p) = new_sum v (Both a p) ∙ pair a a p (Shaped (after_it v) p) refl (sym (law.shaped (after_it v) p))
  onto_sum a (Shaped (operator v) p) = new_sum v (Both a p) ∙ pair a a p (Shaped (operator v) p) refl (sym (law.shaped (operator v) p))
  onto_sum a (Shaped dotted p) = new_sum (member_variant p) (Both a p) ∙ pair a a p (Shaped dotted p) refl (sym (law.shaped dotted p))
  onto_sum a (Shaped fields p) = literal_sum a p ∙ pair a a p (Shaped fields p) refl (sym (law.shaped fields p))
  onto_sum a l = law.shaped chain (Both a l)

  attributes_sum : (a b : Syntax) → m (attributes_before a b) ≡ m (Both a b)
  attributes_sum (Node (Right (Unshown Nothing))) b = sym (none_before no_attributes b no_attributes_sum)
  attributes_sum (Node (Left (Both x k))) b =
      law.node (Left (Both x (attributes_before k b))) ∙ law.left (Both x (attributes_before k b))
      ∙ pair x x (attributes_before k b) (Both k b) refl (attributes_sum k b) ∙ sym (regroup x k b)
      ∙ pair (Both x k) (Node (Left (Both x k))) b b (sym (law.node (Left (Both x k)) ∙ law.left (Both x k))) refl
  attributes_sum a b = refl

  with_attributes_sum : (a s : Syntax) → m (with_attributes a s) ≡ m (Both a s)
  with_attributes_sum a (Shaped (expr v) (Both b s)) =
      law.shaped (expr v) (Both (attributes_before a b) s) ∙ pair (attributes_before a b) (Both a b) s s (attributes_sum a b) refl ∙ regroup a b s
      ∙ pair a a (Both b s) (Shaped (expr v) (Both b s)) refl (sym (law.shaped (expr v) (Both b s)))
  with_attributes_sum a s = law.shaped leading (Both a s)

  with_label_sum : (a s : Syntax) → m (with_label a s) ≡ m (Both a s)
  with_label_sum a (Shaped (expr v) (Both (Node (Right (Unshown Nothing))) s)) = new_sum v (Both a s) ∙ pair a a s (new v s) refl (sym (new_sum v s))
  with_label_sum a s = law.shaped labelled (Both a s)

  -- under an operator
  under_sum : (v : Variant) (a l n p : Syntax) → m n ≡ m (Both a l) → m (new v (Both n p)) ≡ m (Both a (new v (Both l p)))
  under_sum v a l n p e = new_sum v (Both n p) ∙ pair n (Both a l) p p e refl ∙ regroup a l p ∙ pair a a (Both l p) (new v (Both l p)) refl (sym (new_sum v (Both l p)))

  moved_sum : (a s : Syntax) → m (moved a s) ≡ m (Both a s)
  moved_sum a (Shaped (expr Binary) (Both (Node (Right (Unshown Nothing))) (Both l p))) = under_sum Binary a l (moved a l) p (moved_sum a l)
  moved_sum a (Shaped (expr Assign) (Both (Node (Right (Unshown Nothing))) (Both l p))) = under_sum Assign a l (moved a l) p (moved_sum a l)
  moved_sum a (Shaped (expr Cast) (Both (Node (Right (Unshown Nothing))) (Both l p))) = under_sum Cast a l (moved a l) p (moved_sum a l)
  moved_sum a s = with_attributes_sum a s

  with_outer_sum : (a s : Syntax) → m (with_outer a s) ≡ m (Both a s)
  with_outer_sum a (Node (Case k s)) =
      law.node (Case (whole_item k) (Both a (Node s))) ∙ law.named (whole_item k) (Both a (Node s))
      ∙ pair a a (Node s) (Node (Case k s)) refl (law.node s ∙ sym (law.node (Case k s) ∙ law.named k s))
  with_outer_sum a s = refl

  kept_whole_sum : (s : Syntax) → m (kept_whole s) ≡ m s
  kept_whole_sum (Node (Captured s i)) = law.node (Case kept_item (Captured s i)) ∙ law.named kept_item (Captured s i) ∙ sym (law.node (Captured s i))
  kept_whole_sum s = refl

  sentence_sum : (b : Bool) (e k : Syntax) → m (sentence b e k) ≡ m (Both e k)
  sentence_sum b (Shaped (expr Macro) s) (Left k) = law.shaped said_macro (Both s (Left k)) ∙ pair s (Shaped (expr Macro) s) (Left k) (Left k) (sym (law.shaped (expr Macro) s)) refl
  sentence_sum true (Shaped (expr Macro) s) k = law.shaped said_macro (Both s k) ∙ pair s (Shaped (expr Macro) s) k k (sym (law.shaped (expr Macro) s)) refl
  sentence_sum b e k = law.shaped said (Both e k)

  placed : (b : Bool) (a e k k' : Syntax) → m k ≡ m k' → m (sentence b (moved a e) k) ≡ m (Both (Both a e) k')
  placed b a e k k' f = sentence_sum b (moved a e) k ∙ pair (moved a e) (Both a e) k k' (moved_sum a e) f

  chain_sum : (a e more t : Syntax) → m (Both (Both a (onto e more)) t) ≡ m (Both (Both a e) (Right (Left (Both more t))))
  chain_sum a e more t =
      pair (Both a (onto e more)) (Both (Both a e) more) t t (pair a a (onto e more) (Both e more) refl (onto_sum e more) ∙ sym (regroup a e more)) refl
      ∙ regroup (Both a e) more t
      ∙ pair (Both a e) (Both a e) (Both more t) (Right (Left (Both more t))) refl (sym (law.right (Left (Both more t)) ∙ law.left (Both more t)))

  alone_sum : (b : Bool) (a e t : Syntax) → m (alone b a e t) ≡ m (Both (Both a e) t)
  alone_sum b a e (Mark xs) = placed b a e (Left (Mark xs)) (Mark xs) (law.left (Mark xs))
  alone_sum b a e (Node t) = alone_sum b a e t ∙ pair (Both a e) (Both a e) t (Node t) refl (sym (law.node t))
  alone_sum b a e (Left k) = placed b a e (Left k) (Left k) refl
  alone_sum b a e (Right (Left (Both more t))) = alone_sum b a (onto e more) t ∙ chain_sum a e more t
  alone_sum b a e (Right (Right t)) = placed b a e (Right t) (Right (Right t)) (sym (law.right (Right t)))
  alone_sum b a e (Right (Node t)) = alone_sum b a e t ∙ pair (Both a e) (Both a e) t (Right (Node t)) refl (sym (law.right (Node t) ∙ law.node t))
  alone_sum b a e t = placed b a e t t refl

  going_on_sum : (b : Bool) (a e t : Syntax) → m (going_on b a e t) ≡ m (Both (Both a e) t)
  going_on_sum b a e (Node t) = going_on_sum b a e t ∙ pair (Both a e) (Both a e) t (Node t) refl (sym (law.node t))
  going_on_sum b a e (Left (Both k l)) =
      law.shaped listed (Both (sentence b (moved a e) (Left k)) l)
      ∙ pair (sentence b (moved a e) (Left k)) (Both (Both a e) k) l l (placed b a e (Left k) k (law.left k)) refl
      ∙ regroup (Both a e) k l ∙ pair (Both a e) (Both a e) (Both k l) (Left (Both k l)) refl (sym (law.left (Both k l)))
  going_on_sum b a e (Right (Left (Both more t))) = going_on_sum b a (onto e more) t ∙ chain_sum a e more t
  going_on_sum b a e (Right (Right l)) =
      law.shaped listed (Both (sentence b (moved a e) (Right Nothing)) l)
      ∙ pair (sentence b (moved a e) (Right Nothing)) (Both (Both a e) (Right Nothing)) l l (placed b a e (Right Nothing) (Right Nothing) refl) refl
      ∙ regroup (Both a e) (Right Nothing) l
      ∙ pair (Both a e) (Both a e) (Both (Right Nothing) l) (Right (Right l)) refl (none_before (Right Nothing) l (law.right Nothing) ∙ sym (law.right (Right l) ∙ law.right l))
  going_on_sum b a e (Right (Left Nothing)) =
      law.shaped listed (Both (sentence b (moved a e) (Right Nothing)) no_statements) ∙ none_after (sentence b (moved a e) (Right Nothing)) no_statements (law.node (Left Nothing) ∙ law.left Nothing)
      ∙ placed b a e (Right Nothing) (Right (Left Nothing)) (law.right Nothing ∙ sym (law.right (Left Nothing) ∙ law.left Nothing))
  going_on_sum b a e (Right (Node t)) = going_on_sum b a e t ∙ pair (Both a e) (Both a e) t (Right (Node t)) refl (sym (law.right (Node t) ∙ law.node t))
  going_on_sum b a e t =
      law.shaped listed (Both (sentence b (moved a e) t) no_statements) ∙ none_after (sentence b (moved a e) t) no_statements (law.node (Left Nothing) ∙ law.left Nothing) ∙ placed b a e t t refl

  -- attributes before what an expression's tag holds
  tagged : (j : Shape) (a e t : Syntax) → m (Both (Both a (core e)) t) ≡ m (Both a (Shaped j (Both e t)))
  tagged j a e t = pair (Both a (core e)) (Both a e) t t (pair a a (core e) e refl (core_sum e)) refl ∙ regroup a e t ∙ pair a a (Both e t) (Shaped j (Both e t)) refl (sym (law.shaped j (Both e t)))

  inward : (j : Shape) (a s : Syntax) → m (Shaped j (Both a s)) ≡ m (Both a (Shaped j s))
  inward j a s = law.shaped j (Both a s) ∙ pair a a s (Shaped j s) refl (sym (law.shaped j s))

  state_sum : (a s : Syntax) → m (state a s) ≡ m (Both a s)
  state_sum a (Shaped said (Both e t)) = alone_sum false a (core e) t ∙ tagged said a e t
  state_sum a (Shaped said_macro (Both e t)) = alone_sum true a (core e) t ∙ tagged said_macro a e t
  state_sum a (Shaped a_local s) = inward a_local a s
  state_sum a (Shaped an_item (Both s (Left Nothing))) =
      law.shaped an_item (with_outer a s) ∙ with_outer_sum a s
      ∙ pair a a s (Shaped an_item (Both s (Left Nothing))) refl (sym (law.shaped an_item (Both s (Left Nothing)) ∙ none_after s (Left Nothing) (law.left Nothing)))
  state_sum a (Shaped an_item s) = law.shaped an_item (with_outer a s) ∙ with_outer_sum a s ∙ pair a a s (Shaped an_item s) refl (sym (law.shaped an_item s))
  state_sum a s = law.shaped attributed (Both a s)

  cell_sum : (j : Shape) (a s l : Syntax) → m (listing (Shaped j (Both a s)) l) ≡ m (Both a (Shaped j (Both s l)))
  cell_sum j a s l =
      law.shaped listed (Both (Shaped j (Both a s)) l) ∙ pair (Shaped j (Both a s)) (Both a s) l l (law.shaped j (Both a s)) refl ∙ regroup a s l
      ∙ pair a a (Both s l) (Shaped j (Both s l)) refl (sym (law.shaped j (Both s l)))

  go_on_sum : (a s : Syntax) → m (go_on a s) ≡ m (Both a s)
  go_on_sum a (Shaped said (Both e t)) = going_on_sum false a (core e) t ∙ tagged said a e t
  go_on_sum a (Shaped said_macro (Both e t)) = going_on_sum true a (core e) t ∙ tagged said_macro a e t
  go_on_sum a (Shaped a_local (Both s l)) = cell_sum a_local a s l
  go_on_sum a (Shaped an_item (Both s l)) =
      law.shaped listed (Both (Shaped an_item (with_outer a s)) l) ∙ pair (Shaped an_item (with_outer a s)) (Both a s) l l (law.shaped an_item (with_outer a s) ∙ with_outer_sum a s) refl
      ∙ regroup a s l ∙ pair a a (Both s l) (Shaped an_item (Both s l)) refl (sym (law.shaped an_item (Both s l)))
  go_on_sum a s = law.shaped attributed (Both a s)

  cored : (a s : Syntax) → m (Both a (core s)) ≡ m (Both a s)
  cored a s = pair a a (core s) s refl (core_sum s)

  chained_sum : (s : Syntax) → m (chained s) ≡ m s
  chained_sum (Both s l) = onto_sum (core s) l ∙ pair (core s) s l l (core_sum s) refl
  chained_sum s = law.shaped chain s

  led_sum : (s : Syntax) → m (led s) ≡ m s
  led_sum (Both a s) = with_attributes_sum a (core s) ∙ cored a s
  led_sum s = law.shaped leading s

  label_sum : (s : Syntax) → m (label s) ≡ m s
  label_sum (Both a s) = with_label_sum a (core s) ∙ cored a s
  label_sum s = law.shaped labelled s

  stated_sum : (s : Syntax) → m (stated s) ≡ m s
  stated_sum (Both a s) = state_sum a (core s) ∙ cored a s
  stated_sum s = law.shaped attributed s

  in_list_sum : (s : Syntax) → m (in_list s) ≡ m s
  in_list_sum (Left s) = in_list_sum s ∙ sym (law.left s)
  in_list_sum (Right s) = in_list_sum s ∙ sym (law.right s)
  in_list_sum (Both (Shaped an_item s) l) = law.shaped listed (Both (Shaped an_item s) l)
  in_list_sum (Both a s) = go_on_sum a (core s) ∙ cored a s
  in_list_sum s = law.shaped listed s

  separated_sum : (s : Syntax) → m (separated s) ≡ m s
  separated_sum (Both (Mark xs) l) =
      let n = Shaped (expr Verbatim) (Captured Nothing end) in
      law.shaped listed (Both (Shaped said (Both n (Left (Mark xs)))) l)
      ∙ pair (Shaped said (Both n (Left (Mark xs)))) (Mark xs) l l
      (law.shaped said (Both n (Left (Mark xs))) ∙ law.both n (Left (Mark xs)) ∙ ap₂ op (law.shaped (expr Verbatim) (Captured Nothing end)) (law.left (Mark xs)) ∙ law.no_tokens xs) refl
  separated_sum s = law.shaped lone s

  untag_sum : (s : Syntax) → m (untag s) ≡ m s
  untag_sum (Left s) = law.shaped untagged s ∙ sym (law.left s)
  untag_sum (Right s) = law.shaped untagged s ∙ sym (law.right s)
  untag_sum s = law.shaped untagged s

  -- lists with something after them
  no_members_sum : m no_members ≡ m Nothing
  no_members_sum = law.node (Left Nothing) ∙ law.left Nothing

  more_members_sum : (j : Shape) (x comma s : Syntax) → m (more_members j x comma s) ≡ m (Both x (Both comma s))
  more_members_sum j x comma (Node (Shaped k (Both l b))) =
      let n = Right (Both x (Left (Both comma l))) in
      law.shaped j (Both (Node n) b)
      ∙ pair (Node n) (Both x (Both comma l)) b b (law.node n ∙ law.right (Both x (Left (Both comma l))) ∙ pair x x (Left (Both comma l)) (Both comma l) refl (law.left (Both comma l))) refl
      ∙ regroup x (Both comma l) b
      ∙ pair x x (Both (Both comma l) b) (Both comma (Node (Shaped k (Both l b)))) refl
      (regroup comma l b ∙ pair comma comma (Both l b) (Node (Shaped k (Both l b))) refl (sym (law.node (Shaped k (Both l b)) ∙ law.shaped k (Both l b))))
  more_members_sum j x comma s = law.shaped j (Both x (Both comma s))

  one_member_sum : (j : Shape) (x n b : Syntax) → m (one_member j x n b) ≡ m (Both (Both x n) b)
  one_member_sum j x n b =
      law.shaped j (Both (Node (Right (Both x (Right n)))) b)
      ∙ pair (Node (Right (Both x (Right n)))) (Both x n) b b (law.node (Right (Both x (Right n))) ∙ law.right (Both x (Right n)) ∙ pair x x (Right n) n refl (law.right n)) refl

  member_sum : (j : Shape) (b x e : Syntax) → m b ≡ m Nothing → m (member j b x e) ≡ m (Both x e)
  member_sum j b x (Left (Both comma l)) h = more_members_sum j x comma l ∙ pair x x (Both comma l) (Left (Both comma l)) refl (sym (law.left (Both comma l)))
  member_sum j b x (Right n) h = one_member_sum j x n b ∙ none_after (Both x n) b h ∙ pair x x n (Right n) refl (sym (law.right n))
  member_sum j b x s h = law.shaped j (Both x s)

  ellipsis_sum : (a p v : Syntax) → m (ellipsis_of a p v) ≡ m (Both a (Both p v))
  ellipsis_sum a p v =
      law.shaped parameters (Both no_members (Left (Both a (Both p v)))) ∙ none_before no_members (Left (Both a (Both p v))) no_members_sum ∙ law.left (Both a (Both p v))

  after_colon_sum : (a p c s : Syntax) → m (after_colon a p c s) ≡ m (Both a (Both p (Both c s)))
  after_colon_sum a p c (Left v) =
      ellipsis_sum a (Left (Both p c)) v
      ∙ pair a a (Both (Left (Both p c)) v) (Both p (Both c (Left v))) refl
      (pair (Left (Both p c)) (Both p c) v v (law.left (Both p c)) refl ∙ regroup p c v ∙ pair p p (Both c v) (Both c (Left v)) refl (pair c c v (Left v) refl (sym (law.left v))))
  after_colon_sum a p c (Right (Both t e)) =
      let x = Node (Both a (Right (Both p (Both c t)))) in
      member_sum parameters (Right Nothing) x e (law.right Nothing)
      ∙ pair x (Both a (Both p (Both c t))) e e (law.node (Both a (Right (Both p (Both c t)))) ∙ pair a a (Right (Both p (Both c t))) (Both p (Both c t)) refl (law.right (Both p (Both c t)))) refl
      ∙ regroup a (Both p (Both c t)) e
      ∙ pair a a (Both (Both p (Both c t)) e) (Both p (Both c (Right (Both t e)))) refl
      (regroup p (Both c t) e ∙ pair p p (Both (Both c t) e) (Both c (Right (Both t e))) refl (regroup c t e ∙ pair c c (Both t e) (Right (Both t e)) refl (sym (law.right (Both t e)))))
  after_colon_sum a p c s = law.shaped parameters (Both a (Both p (Both c s)))

  typed_sum : (a s : Syntax) → m (typed a s) ≡ m (Both a s)
  typed_sum a (Left v) = ellipsis_sum a (Right Nothing) v ∙ pair a a (Both (Right Nothing) v) (Left v) refl (none_before (Right Nothing) v (law.right Nothing) ∙ sym (law.left v))
  typed_sum a (Right (Both p (Both c s))) = after_colon_sum a p c s ∙ pair a a (Both p (Both c s)) (Right (Both p (Both c s))) refl (sym (law.right (Both p (Both c s))))
  typed_sum a s = law.shaped parameters (Both a s)

  parameter_sum : (a s : Syntax) → m (parameter_of a s) ≡ m (Both a s)
  parameter_sum a (Left (Both r e)) =
      member_sum parameters (Right Nothing) (Node (Both a (Left r))) e (law.right Nothing)
      ∙ pair (Node (Both a (Left r))) (Both a r) e e (law.node (Both a (Left r)) ∙ pair a a (Left r) r refl (law.left r)) refl
      ∙ regroup a r e ∙ pair a a (Both r e) (Left (Both r e)) refl (sym (law.left (Both r e)))
  parameter_sum a (Right (Node s)) = typed_sum a s ∙ pair a a s (Right (Node s)) refl (sym (law.right (Node s) ∙ law.node s))
  parameter_sum a s = law.shaped parameters (Both a s)

  parameters_sum : (s : Syntax) → m (parameters_of s) ≡ m s
  parameters_sum (Left n) = law.shaped parameters (Both (Node (Left n)) (Right Nothing)) ∙ none_after (Node (Left n)) (Right Nothing) (law.right Nothing) ∙ law.node (Left n)
  parameters_sum (Right (Both a s)) = parameter_sum a s ∙ sym (law.right (Both a s))
  parameters_sum s = law.shaped parameters s

  no_base_sum : m no_base ≡ m Nothing
  no_base_sum = none_before (Right Nothing) (Right Nothing) (law.right Nothing) ∙ law.right Nothing

  literal_fields_sum : (s : Syntax) → m (literal_fields_of s) ≡ m s
  literal_fields_sum (Left n) = law.shaped based (Both (Node (Left n)) no_base) ∙ none_after (Node (Left n)) no_base no_base_sum ∙ law.node (Left n)
  literal_fields_sum (Right (Left (Both d e))) =
      law.shaped based (Both no_members (Both (Left d) (Left e))) ∙ none_before no_members (Both (Left d) (Left e)) no_members_sum
      ∙ pair (Left d) d (Left e) e (law.left d) (law.left e) ∙ sym (law.right (Left (Both d e)) ∙ law.left (Both d e))
  literal_fields_sum (Right (Right (Both f e))) = member_sum based no_base f e no_base_sum ∙ sym (law.right (Right (Both f e)) ∙ law.right (Both f e))
  literal_fields_sum s = law.shaped based s

  pub sum_shape : (j : Shape) (s : Syntax) → m (shape j s) ≡ m s
  sum_shape (operand v) s = new_sum v s
  sum_shape bracketed s = new_sum (variant_of s) s
  sum_shape choice s = core_sum s
  sum_shape chain s = chained_sum s
  sum_shape leading s = led_sum s
  sum_shape labelled s = label_sum s
  sum_shape attributed s = stated_sum s
  sum_shape listed s = in_list_sum s
  sum_shape lone s = separated_sum s
  sum_shape untagged s = untag_sum s
  sum_shape an_item s = law.shaped an_item (kept_whole s) ∙ kept_whole_sum s
  sum_shape parameters s = parameters_sum s
  sum_shape based s = literal_fields_sum s
  sum_shape single s = core_sum s
  sum_shape j s = law.shaped j s

-- tokens
pub show_sum : IsSum Stream ◌⧺◌ show
show_sum = record {
  both = λ s t. refl;
  left = λ s. refl;
  right = λ s. refl;
  node = λ s. refl;
  shaped = λ j s. refl;
  unshown = refl;
  then_none = λ s. append_end (show s);
  none_then = λ s. refl;
  regrouped = λ s t u. append_append (show s) (show t) (show u);
  named = λ k s. refl;
  no_tokens = λ xs. refl;
}

-- whether anything was read, and whether it ends with a brace group
abbrev pub last_of : Bool × Bool → Bool × Bool → Bool × Bool
last_of a b = (and a.0 b.0, pick b.0 a.1 b.1)

abbrev pub ending : Syntax → Bool × Bool
ending s = (vacant s, ends_brace s)

vacant_ends : (s : Syntax) → vacant s ≡ true → ends_brace s ≡ false
vacant_ends (Both s t) e = go (vacant s) (vacant t) e (vacant_ends s)
  where
    go : (a b : Bool) → and a b ≡ true → (a ≡ true → ends_brace s ≡ false) → pick b (ends_brace s) (ends_brace t) ≡ false
    go true true e f = f refl
    go true false e f = absurd (cc e)
    go false b e f = absurd (cc e)
vacant_ends (Left s) e = vacant_ends s e
vacant_ends (Right s) e = vacant_ends s e
vacant_ends (Node s) e = vacant_ends s e
vacant_ends (Case k s) e = vacant_ends s e
vacant_ends (Such s) e = vacant_ends s e
vacant_ends (Shaped j s) e = vacant_ends s e
vacant_ends (Group d o c s) e = absurd (cc e)
vacant_ends (Raw d o c i) e = absurd (cc e)
vacant_ends _ e = refl

pub ends_sum : IsSum (Bool × Bool) last_of ending
ends_sum = record {
  both = λ s t. refl;
  left = λ s. refl;
  right = λ s. refl;
  node = λ s. refl;
  shaped = λ j s. refl;
  unshown = refl;
  then_none = λ s. ap (λ v. (v, ends_brace s)) (and_true (vacant s));
  none_then = λ s. ap (λ v. (vacant s, v)) (none (vacant s) (ends_brace s) (vacant_ends s));
  regrouped = λ s t u. group (vacant s) (vacant t) (vacant u) (ends_brace s) (ends_brace t) (ends_brace u);
  named = λ k s. refl;
  no_tokens = λ xs. refl;
}
  where
    and_true : (v : Bool) → and v true ≡ v
    and_true true = refl
    and_true false = refl

    none : (v e : Bool) → (v ≡ true → e ≡ false) → pick v false e ≡ e
    none true e h = sym (h refl)
    none false e h = refl

    group : (a b c : Bool) (x y z : Bool) → ◌≡◌ {A = Bool × Bool} (last_of (last_of (a, x) (b, y)) (c, z)) (last_of (a, x) (last_of (b, y) (c, z)))
    group true b c x y z = last b c
      where
        last : (b c : Bool) → ◌≡◌ {A = Bool × Bool} (and b c, pick c (pick b x y) z) (and b c, pick (and b c) x (pick c y z))
        last true true = refl
        last true false = refl
        last false true = refl
        last false false = refl
    group false b c x y z = last b c
      where
        last : (b c : Bool) → ◌≡◌ {A = Bool × Bool} (false, pick c (pick b x y) z) (false, pick (and b c) x (pick c y z))
        last true true = refl
        last true false = refl
        last false true = refl
        last false false = refl

-- ---- the print of a value is built like the value
renew_core : (s : Syntax) → renew (core s) ≡ core (renew s)
renew_core (Node s) = renew_core s
renew_core (Left s) = renew_core s
renew_core (Right s) = renew_core s
renew_core _ = refl

variant_renew : (s : Syntax) → variant_of (renew s) ≡ variant_of s
variant_renew (Group Paren o c (Node (Right (Both s (Right Nothing))))) = refl
variant_renew (Group Bracket o c (Node (Right (Both s (Left t))))) = refl
variant_renew _ = refl

member_renew : (s : Syntax) → member_variant (renew s) ≡ member_variant s
member_renew (Both d (Node (Left s))) = refl
member_renew (Both d (Node (Right (Both n (Right (Right Nothing)))))) = refl
member_renew _ = refl

literal_renew : (s p : Syntax) → renew (literal_of s p) ≡ literal_of (renew s) (renew p)
literal_renew (Shaped (expr Path) (Both a s)) p = refl
literal_renew _ p = refl

onto_renew : (a l : Syntax) → renew (onto a l) ≡ onto (renew a) (renew l)
onto_renew a Nothing = refl
onto_renew a (Node l) = onto_renew a l
onto_renew a (Left l) = onto_renew a l
onto_renew a (Right l) = onto_renew a l
onto_renew a (Both l k) = onto_renew (onto a l) k ∙ ap (λ z. onto z (renew k)) (onto_renew a l)
onto_renew a (Shaped dotted p) = ap (λ v. new v (Both (renew a) (renew p))) (sym (member_renew p))
onto_renew a (Shaped fields p) = literal_renew a p
onto_renew a (Shaped _ p) = refl
onto_renew a _ = refl

attributes_renew : (a b : Syntax) → renew (attributes_before a b) ≡ attributes_before (renew a) (renew b)
attributes_renew (Node (Right (Unshown Nothing))) b = refl
attributes_renew (Node (Left (Both x k))) b = ap (λ z. Node (Left (Both (renew x) z))) (attributes_renew k b)
attributes_renew _ b = refl

with_attributes_renew : (a s : Syntax) → renew (with_attributes a s) ≡ with_attributes (renew a) (renew s)
with_attributes_renew a (Shaped (expr v) (Both b s)) = ap (λ z. Shaped (expr v) (Both z (renew s))) (attributes_renew a b)
with_attributes_renew a _ = refl

with_label_renew : (a s : Syntax) → renew (with_label a s) ≡ with_label (renew a) (renew s)
with_label_renew a (Shaped (expr v) (Both (Node (Right (Unshown Nothing))) s)) = refl
with_label_renew a _ = refl

moved_renew : (a s : Syntax) → renew (moved a s) ≡ moved (renew a) (renew s)
moved_renew a (Shaped (expr Binary) (Both (Node (Right (Unshown Nothing))) (Both l p))) = ap (λ z. new Binary (Both z (renew p))) (moved_renew a l)
moved_renew a (Shaped (expr Assign) (Both (Node (Right (Unshown Nothing))) (Both l p))) = ap (λ z. new Assign (Both z (renew p))) (moved_renew a l)
moved_renew a (Shaped (expr Cast) (Both (Node (Right (Unshown Nothing))) (Both l p))) = ap (λ z. new Cast (Both z (renew p))) (moved_renew a l)
moved_renew a s = with_attributes_renew a s

with_outer_renew : (a s : Syntax) → renew (with_outer a s) ≡ with_outer (renew a) (renew s)
with_outer_renew a (Node (Case k s)) = refl
with_outer_renew a _ = refl

kept_whole_renew : (s : Syntax) → renew (kept_whole s) ≡ kept_whole (renew s)
kept_whole_renew (Node (Captured s i)) = refl
kept_whole_renew _ = refl

sentence_renew : (b : Bool) (e k : Syntax) → renew (sentence b e k) ≡ sentence b (renew e) (renew k)
sentence_renew b (Shaped (expr Macro) s) (Left k) = refl
sentence_renew true (Shaped (expr Macro) s) k = refl
sentence_renew b e k = refl

moved_sentence : (b : Bool) (a e k : Syntax) → renew (sentence b (moved a e) k) ≡ sentence b (moved (renew a) (renew e)) (renew k)
moved_sentence b a e k = sentence_renew b (moved a e) k ∙ ap (λ z. sentence b z (renew k)) (moved_renew a e)

alone_renew : (b : Bool) (a e t : Syntax) → renew (alone b a e t) ≡ alone b (renew a) (renew e) (renew t)
alone_renew b a e (Mark xs) = moved_sentence b a e (Left (Mark xs))
alone_renew b a e (Node t) = alone_renew b a e t
alone_renew b a e (Left k) = moved_sentence b a e (Left k)
alone_renew b a e (Right (Left (Both more t))) = alone_renew b a (onto e more) t ∙ ap (λ z. alone b (renew a) z (renew t)) (onto_renew e more)
alone_renew b a e (Right (Right t)) = moved_sentence b a e (Right t)
alone_renew b a e (Right (Node t)) = alone_renew b a e t
alone_renew b a e t = moved_sentence b a e t

going_on_renew : (b : Bool) (a e t : Syntax) → renew (going_on b a e t) ≡ going_on b (renew a) (renew e) (renew t)
going_on_renew b a e (Node t) = going_on_renew b a e t
going_on_renew b a e (Left (Both k l)) = ap (λ z. listing z (renew l)) (moved_sentence b a e (Left k))
going_on_renew b a e (Right (Left (Both more t))) = going_on_renew b a (onto e more) t ∙ ap (λ z. going_on b (renew a) z (renew t)) (onto_renew e more)
going_on_renew b a e (Right (Right l)) = ap (λ z. listing z (renew l)) (moved_sentence b a e (Right Nothing))
going_on_renew b a e (Right (Left Nothing)) = ap (λ z. listing z no_statements) (moved_sentence b a e (Right Nothing))
going_on_renew b a e (Right (Node t)) = going_on_renew b a e t
going_on_renew b a e t = ap (λ z. listing z no_statements) (moved_sentence b a e t)

state_renew : (a s : Syntax) → renew (state a s) ≡ state (renew a) (renew s)
state_renew a (Shaped said (Both e t)) = alone_renew false a (core e) t ∙ ap (λ z. alone false (renew a) z (renew t)) (renew_core e)
state_renew a (Shaped said_macro (Both e t)) = alone_renew true a (core e) t ∙ ap (λ z. alone true (renew a) z (renew t)) (renew_core e)
state_renew a (Shaped an_item (Both s (Left Nothing))) = ap (Shaped an_item) (with_outer_renew a s)
state_renew a (Shaped an_item s) = ap (Shaped an_item) (with_outer_renew a s)
state_renew a _ = refl

go_on_renew : (a s : Syntax) → renew (go_on a s) ≡ go_on (renew a) (renew s)
go_on_renew a (Shaped said (Both e t)) = going_on_renew false a (core e) t ∙ ap (λ z. going_on false (renew a) z (renew t)) (renew_core e)
go_on_renew a (Shaped said_macro (Both e t)) = going_on_renew true a (core e) t ∙ ap (λ z. going_on true (renew a) z (renew t)) (renew_core e)
go_on_renew a (Shaped a_local (Both s l)) = refl
go_on_renew a (Shaped an_item (Both s l)) = ap (λ z. listing (Shaped an_item z) (renew l)) (with_outer_renew a s)
go_on_renew a _ = refl

in_list_renew : (s : Syntax) → renew (in_list s) ≡ in_list (renew s)
in_list_renew (Left s) = in_list_renew s
in_list_renew (Right s) = in_list_renew s
in_list_renew (Both (Shaped an_item s) l) = refl
in_list_renew (Both a s) = go_on_renew a (core s) ∙ ap (go_on (renew a)) (renew_core s)
in_list_renew _ = refl

more_members_renew : (j : Shape) (x comma s : Syntax) → renew (more_members j x comma s) ≡ more_members j (renew x) (renew comma) (renew s)
more_members_renew j x comma (Node (Shaped k (Both l b))) = refl
more_members_renew j x comma _ = refl

members_renew : (j : Shape) (b x e : Syntax) → renew (member j b x e) ≡ member j (renew b) (renew x) (renew e)
members_renew j b x (Left (Both comma l)) = more_members_renew j x comma l
members_renew j b x (Right n) = refl
members_renew j b x _ = refl

after_colon_renew : (a p c s : Syntax) → renew (after_colon a p c s) ≡ after_colon (renew a) (renew p) (renew c) (renew s)
after_colon_renew a p c (Left v) = refl
after_colon_renew a p c (Right (Both t e)) = members_renew parameters (Right Nothing) (Node (Both a (Right (Both p (Both c t))))) e
after_colon_renew a p c _ = refl

typed_renew : (a s : Syntax) → renew (typed a s) ≡ typed (renew a) (renew s)
typed_renew a (Left v) = refl
typed_renew a (Right (Both p (Both c s))) = after_colon_renew a p c s
typed_renew a _ = refl

parameter_renew : (a s : Syntax) → renew (parameter_of a s) ≡ parameter_of (renew a) (renew s)
parameter_renew a (Left (Both r e)) = members_renew parameters (Right Nothing) (Node (Both a (Left r))) e
parameter_renew a (Right (Node s)) = typed_renew a s
parameter_renew a _ = refl

parameters_renew : (s : Syntax) → renew (parameters_of s) ≡ parameters_of (renew s)
parameters_renew (Left n) = refl
parameters_renew (Right (Both a s)) = parameter_renew a s
parameters_renew _ = refl

literal_fields_renew : (s : Syntax) → renew (literal_fields_of s) ≡ literal_fields_of (renew s)
literal_fields_renew (Left n) = refl
literal_fields_renew (Right (Left (Both d e))) = refl
literal_fields_renew (Right (Right (Both f e))) = members_renew based no_base f e
literal_fields_renew _ = refl

pub renew_shape : (j : Shape) (s : Syntax) → renew (shape j s) ≡ shape j (renew s)
renew_shape bracketed s = ap (λ v. new v (renew s)) (sym (variant_renew s))
renew_shape choice s = renew_core s
renew_shape chain (Both s l) = onto_renew (core s) l ∙ ap (λ z. onto z (renew l)) (renew_core s)
renew_shape leading (Both a s) = with_attributes_renew a (core s) ∙ ap (with_attributes (renew a)) (renew_core s)
renew_shape labelled (Both a s) = with_label_renew a (core s) ∙ ap (with_label (renew a)) (renew_core s)
renew_shape attributed (Both a s) = state_renew a (core s) ∙ ap (state (renew a)) (renew_core s)
renew_shape listed s = in_list_renew s
renew_shape lone (Both (Mark xs) l) = refl
renew_shape lone (Both _ l) = refl
renew_shape untagged (Left s) = refl
renew_shape untagged (Right s) = refl
renew_shape an_item s = ap (Shaped an_item) (kept_whole_renew s)
renew_shape parameters s = parameters_renew s
renew_shape based s = literal_fields_renew s
renew_shape single s = renew_core s
renew_shape _ _ = refl

-- ---- a shape's value is a shape
abbrev pub IsShaped : Syntax → Type 0
IsShaped s = (j : Shape) × (t : Syntax) × (s ≡ Shaped j t)

pub core_shaped : (s : Syntax) → IsShaped (core s)
core_shaped (Node s) = core_shaped s
core_shaped (Left s) = core_shaped s
core_shaped (Right s) = core_shaped s
core_shaped (Shaped j s) = (j, s, refl)
core_shaped s = (choice, s, refl)

literal_shaped : (s p : Syntax) → IsShaped (literal_of s p)
literal_shaped (Shaped (expr Path) (Both a s)) p = (_, _, refl)
literal_shaped s p = (fields, Both s p, refl)

pub onto_shaped : (a l : Syntax) → IsShaped a → IsShaped (onto a l)
onto_shaped a Nothing h = h
onto_shaped a (Node l) h = onto_shaped a l h
onto_shaped a (Left l) h = onto_shaped a l h
onto_shaped a (Right l) h = onto_shaped a l h
onto_shaped a (Both l k) h = onto_shaped (onto a l) k (onto_shaped a l h)
onto_shaped a (Shaped (after_it v) p) h = (_, _, refl)
onto_shaped a (Shaped (operator v) p) h = (_, _, refl)
onto_shaped a (Shaped dotted p) h = (_, _, refl)
onto_shaped a (Shaped fields p) h = literal_shaped a p
onto_shaped a l h = (chain, Both a l, refl)

with_attributes_shaped : (a s : Syntax) → IsShaped (with_attributes a s)
with_attributes_shaped a (Shaped (expr v) (Both b s)) = (_, _, refl)
with_attributes_shaped a s = (leading, Both a s, refl)

with_label_shaped : (a s : Syntax) → IsShaped (with_label a s)
with_label_shaped a (Shaped (expr v) (Both (Node (Right (Unshown Nothing))) s)) = (_, _, refl)
with_label_shaped a s = (labelled, Both a s, refl)

sentence_shaped : (b : Bool) (e k : Syntax) → IsShaped (sentence b e k)
sentence_shaped b (Shaped (expr Macro) s) (Left k) = (_, _, refl)
sentence_shaped true (Shaped (expr Macro) s) k = (_, _, refl)
sentence_shaped b e k = (said, Both e k, refl)

alone_shaped : (b : Bool) (a e t : Syntax) → IsShaped (alone b a e t)
alone_shaped b a e (Mark xs) = sentence_shaped b (moved a e) (Left (Mark xs))
alone_shaped b a e (Node t) = alone_shaped b a e t
alone_shaped b a e (Left k) = sentence_shaped b (moved a e) (Left k)
alone_shaped b a e (Right (Left (Both more t))) = alone_shaped b a (onto e more) t
alone_shaped b a e (Right (Right t)) = sentence_shaped b (moved a e) (Right t)
alone_shaped b a e (Right (Node t)) = alone_shaped b a e t
alone_shaped b a e t = sentence_shaped b (moved a e) t

going_on_shaped : (b : Bool) (a e t : Syntax) → IsShaped (going_on b a e t)
going_on_shaped b a e (Node t) = going_on_shaped b a e t
going_on_shaped b a e (Left (Both k l)) = (_, _, refl)
going_on_shaped b a e (Right (Left (Both more t))) = going_on_shaped b a (onto e more) t
going_on_shaped b a e (Right (Right l)) = (_, _, refl)
going_on_shaped b a e (Right (Left Nothing)) = (_, _, refl)
going_on_shaped b a e (Right (Node t)) = going_on_shaped b a e t
going_on_shaped b a e t = (listed, Both (sentence b (moved a e) t) no_statements, refl)

state_shaped : (a s : Syntax) → IsShaped (state a s)
state_shaped a (Shaped said (Both e t)) = alone_shaped false a (core e) t
state_shaped a (Shaped said_macro (Both e t)) = alone_shaped true a (core e) t
state_shaped a (Shaped a_local s) = (_, _, refl)
state_shaped a (Shaped an_item (Both s (Left Nothing))) = (_, _, refl)
state_shaped a (Shaped an_item s) = (_, _, refl)
state_shaped a s = (attributed, Both a s, refl)

go_on_shaped : (a s : Syntax) → IsShaped (go_on a s)
go_on_shaped a (Shaped said (Both e t)) = going_on_shaped false a (core e) t
go_on_shaped a (Shaped said_macro (Both e t)) = going_on_shaped true a (core e) t
go_on_shaped a (Shaped a_local (Both s l)) = (_, _, refl)
go_on_shaped a (Shaped an_item (Both s l)) = (_, _, refl)
go_on_shaped a s = (attributed, Both a s, refl)

in_list_shaped : (s : Syntax) → IsShaped (in_list s)
in_list_shaped (Left s) = in_list_shaped s
in_list_shaped (Right s) = in_list_shaped s
in_list_shaped (Both (Shaped an_item s) l) = (_, _, refl)
in_list_shaped (Both a s) = go_on_shaped a (core s)
in_list_shaped s = (listed, s, refl)

more_members_shaped : (j : Shape) (x comma s : Syntax) → IsShaped (more_members j x comma s)
more_members_shaped j x comma (Node (Shaped k (Both l b))) = (_, _, refl)
more_members_shaped j x comma s = (j, Both x (Both comma s), refl)

member_shaped : (j : Shape) (b x e : Syntax) → IsShaped (member j b x e)
member_shaped j b x (Left (Both comma l)) = more_members_shaped j x comma l
member_shaped j b x (Right n) = (_, _, refl)
member_shaped j b x s = (j, Both x s, refl)

after_colon_shaped : (a p c s : Syntax) → IsShaped (after_colon a p c s)
after_colon_shaped a p c (Left v) = (_, _, refl)
after_colon_shaped a p c (Right (Both t e)) = member_shaped parameters (Right Nothing) (Node (Both a (Right (Both p (Both c t))))) e
after_colon_shaped a p c s = (parameters, Both a (Both p (Both c s)), refl)

typed_shaped : (a s : Syntax) → IsShaped (typed a s)
typed_shaped a (Left v) = (_, _, refl)
typed_shaped a (Right (Both p (Both c s))) = after_colon_shaped a p c s
typed_shaped a s = (parameters, Both a s, refl)

parameter_shaped : (a s : Syntax) → IsShaped (parameter_of a s)
parameter_shaped a (Left (Both r e)) = member_shaped parameters (Right Nothing) (Node (Both a (Left r))) e
parameter_shaped a (Right (Node s)) = typed_shaped a s
parameter_shaped a s = (parameters, Both a s, refl)

parameters_shaped : (s : Syntax) → IsShaped (parameters_of s)
parameters_shaped (Left n) = (_, _, refl)
parameters_shaped (Right (Both a s)) = parameter_shaped a s
parameters_shaped s = (parameters, s, refl)

literal_fields_shaped : (s : Syntax) → IsShaped (literal_fields_of s)
literal_fields_shaped (Left n) = (_, _, refl)
literal_fields_shaped (Right (Left (Both d e))) = (_, _, refl)
literal_fields_shaped (Right (Right (Both f e))) = member_shaped based no_base f e
literal_fields_shaped s = (based, s, refl)

pub is_shaped : (j : Shape) (s : Syntax) → IsShaped (shape j s)
is_shaped (operand v) s = (_, _, refl)
is_shaped bracketed s = (_, _, refl)
is_shaped choice s = core_shaped s
is_shaped chain (Both s l) = onto_shaped (core s) l (core_shaped s)
is_shaped chain s = (chain, s, refl)
is_shaped leading (Both a s) = with_attributes_shaped a (core s)
is_shaped leading s = (leading, s, refl)
is_shaped labelled (Both a s) = with_label_shaped a (core s)
is_shaped labelled s = (labelled, s, refl)
is_shaped attributed (Both a s) = state_shaped a (core s)
is_shaped attributed s = (attributed, s, refl)
is_shaped listed s = in_list_shaped s
is_shaped lone (Both (Mark xs) l) = (_, _, refl)
is_shaped lone s = (lone, s, refl)
is_shaped untagged (Left s) = (untagged, s, refl)
is_shaped untagged (Right s) = (untagged, s, refl)
is_shaped untagged s = (untagged, s, refl)
is_shaped an_item s = (an_item, kept_whole s, refl)
is_shaped parameters s = parameters_shaped s
is_shaped based s = literal_fields_shaped s
is_shaped single s = core_shaped s
is_shaped j s = (j, s, refl)

-- no row's sorting looks into it
pub shape_apart : (j : Shape) (s : Syntax) → (sort (shape j s) ≡ shape j s) × ((t : Syntax) (sp : Span) → following t sp (shape j s) ≡ More false t sp (shape j s))
shape_apart j s = let (i, u, e) = is_shaped j s in (ap sort e ∙ sym e, λ t sp. ap (following t sp) e ∙ ap (More false t sp) (sym e))

-- one of two is shown and printed as it is, without saying which
pub untag_shown : (s : Syntax) → show (untag s) ≡ show s
untag_shown (Left s) = refl
untag_shown (Right s) = refl
untag_shown _ = refl

pub untag_printed : (s : Syntax) → show (renew (untag s)) ≡ show (renew s)
untag_printed (Left s) = refl
untag_printed (Right s) = refl
untag_printed _ = refl
