-- The path of a macro of `crate` in braces, and its `!`: what is read of them, and that the braces follow it.
use Rattle.std.proofs.Common.{◌≡◌, Bool, true, false, [], ◌∷◌, nat_eq, Some, None, refl, sym, ap, subst, ◌∙◌, true≢false}
use Rattle.std.proofs.lemmas.Bool.{eqb-true}
use Rattle.syn_grammar.specs.Words.{colons, exclamation, not_equals, w_crate, w_self, w_Self_type, w_super}
use Rattle.syn_grammar.specs.Tokens.{Span, Leaf, Stream, end, leaf, punct, group, Word, and, or, no, at_mark, at_word, leaf_terminal, mem, same_terminal}
use Rattle.syn_grammar.specs.Rules.{module_path, module_words}
use Rattle.syn_grammar.specs.Grammar.{Syntax, Nothing, Mark, Token, Both, Left, Right, Node, Grammar, Kind, name_or, terminals, word, when◌then◌else◌}
use Rattle.syn_grammar.specs.Forms.{asking_punctuation, never}
use Rattle.syn_grammar.specs.Table.{at_bang, at_brace, at_colons, at_crate_macro, at_lone_crate}
use Rattle.syn_grammar.specs.Take.{Out, Parser, only, sees, take_mark, take_token, taken}
use Rattle.syn_grammar.specs.Values.{untag}
use Rattle.syn_grammar.specs.Run.{wrap, and_then, branch, parse_form, parse_rule}
use Rattle.syn_grammar.proofs.Each.{module_path_is, module_words_is}
use Rattle.syn_grammar.proofs.Looks.{sees_but, sees_mark, sees_word}
use Rattle.syn_grammar.proofs.PlanSteps.{seen_apart}
use Rattle.syn_grammar.proofs.Sets.{and_left, and_right, same_terminal_eq}
use Rattle.syn_parse.specs.Peeks.{past}
use Rattle.syn_recognize.proofs.PathLooks.{crate_macro_seen, lone_crate_seen}

abbrev pub bang_form : Grammar
bang_form = when at_bang then asking_punctuation exclamation else never

pub record Pieces (m : Stream) : Type 0 where
  pub path : Syntax
  pub bang : Syntax
  pub following : Stream
  pub rest : Stream
  pub path_read : parse_rule module_path m ≡ Some (path, following)
  pub bang_read : parse_form bang_form following ≡ Some (bang, rest)
  pub brace : sees at_brace rest ≡ true

-- THE PATH

abbrev path_word : Kind
path_word = name_or (w_self ∷ w_Self_type ∷ w_super ∷ w_crate ∷ [])

crate_face : (x : Leaf) → mem (leaf_terminal x) (terminals (word w_crate)) ≡ true → leaf_terminal x ≡ Word w_crate
crate_face x h = go (same_terminal (leaf_terminal x) (Word w_crate)) refl h
  where
    go : (b : Bool) → same_terminal (leaf_terminal x) (Word w_crate) ≡ b → or b false ≡ true → leaf_terminal x ≡ Word w_crate
    go true e k = same_terminal_eq (leaf_terminal x) (Word w_crate) e
    go false e k = absurd (true≢false (sym k))

abbrev found : Syntax → Stream → Out
found s m = Some (s, m)

by_fit : (b : Bool) (s : Syntax) (m : Stream) → taken (only b (found s m)) ≡ true → b ≡ true
by_fit true s m h = refl
by_fit false s m h = absurd (true≢false (sym h))

crate_taken : (x : Leaf) (sp : Span) (m : Stream) → sees (at_word w_crate) (leaf x sp m) ≡ true → take_token path_word (leaf x sp m) ≡ Some (Token x sp, m)
unfolding take_token
crate_taken x sp m h =
    let f = by_fit (mem (leaf_terminal x) (terminals (word w_crate))) (Token x sp) m (sym (sees_word w_crate (leaf x sp m)) ∙ h) in
    ap (λ t. only (mem t (terminals path_word)) (Some (Token x sp, m))) (crate_face x f)

abbrev word_of : Leaf → Span → Syntax
word_of x sp = untag (Both (Token x sp) (untag Nothing))

abbrev path_of : Leaf → Span → Syntax
path_of x sp = Node (Both (Right Nothing) (Node (Both (word_of x sp) (Right Nothing))))

-- after a word
abbrev more : Parser
more n = branch (sees at_colons n) (and_then (take_mark colons n) (parse_rule module_words)) (Some (Nothing, n))

path_taken : (x : Leaf) (sp : Span) (m : Stream) → sees (at_word w_crate) (leaf x sp m) ≡ true → sees at_colons m ≡ false → parse_rule module_path (leaf x sp m) ≡ Some (path_of x sp, m)
path_taken x sp m h c =
    module_path_is (leaf x sp m)
    ∙ ap (λ b. wrap Node (and_then (branch b (take_mark colons (leaf x sp m)) (Some (Nothing, leaf x sp m))) (parse_rule module_words))) (seen_apart (at_word w_crate) at_colons (leaf x sp m) refl h)
    ∙ ap (λ o. wrap Node (wrap (Both (Right Nothing)) o)) words
  where
    words : parse_rule module_words (leaf x sp m) ≡ Some (Node (Both (word_of x sp) (Right Nothing)), m)
    words =
        module_words_is (leaf x sp m)
        ∙ ap (λ o. wrap Node (and_then (wrap untag (and_then o (λ n. wrap untag (Some (Nothing, n))))) more)) (crate_taken x sp m h)
        ∙ ap (λ b. wrap Node (wrap (Both (word_of x sp)) (branch b (and_then (take_mark colons m) (parse_rule module_words)) (Some (Nothing, m))))) c

-- ITS `!`

abbrev Following : Stream → Type 0
Following r = (x : Syntax) × (q : Stream) × (parse_form bang_form r ≡ Some (x, q)) × (sees at_brace q ≡ true)

bang_taken : (j : Bool) (sp : Span) (m : Stream) → sees at_bang (punct 33 j sp m) ≡ true → sees at_brace (past (punct 33 j sp m)) ≡ true → Following (punct 33 j sp m)
unfolding take_mark
bang_taken false sp m b h = (Left (Mark ((33, sp) ∷ [])), m, ap (λ v. branch v (take_mark exclamation (punct 33 false sp m)) None) b, h)
bang_taken true sp m b h = (Left (Mark ((33, sp) ∷ [])), m, ap (λ v. branch v (take_mark exclamation (punct 33 true sp m)) None) b, h)

bang_at : (r : Stream) → sees at_bang r ≡ true → taken (take_mark exclamation r) ≡ true → sees at_brace (past r) ≡ true → Following r
unfolding take_mark
bang_at end b t h = absurd (true≢false (sym t))
bang_at (leaf x sp m) b t h = absurd (true≢false (sym t))
bang_at (group d o c i m) b t h = absurd (true≢false (sym t))
bang_at (punct d j sp m) b t h = go (nat_eq d 33) refl t
  where
    go : (v : Bool) → nat_eq d 33 ≡ v → taken (take_mark exclamation (punct d j sp m)) ≡ true → Following (punct d j sp m)
    go true e k = subst (λ z. sees at_bang (punct z j sp m) ≡ true → sees at_brace (past (punct z j sp m)) ≡ true → Following (punct z j sp m)) (sym (eqb-true d 33 e)) (bang_taken j sp m) b h
    go false e k = absurd (true≢false (sym k ∙ rw e refl))

is_off : (b : Bool) → no b ≡ true → b ≡ false
is_off false h = refl
is_off true h = absurd (true≢false (sym h))

by_word : (m : Stream) → sees (at_word w_crate) m ≡ true → sees at_colons (past m) ≡ false → sees at_bang (past m) ≡ true → sees at_brace (past (past m)) ≡ true → Pieces m
unfolding take_token
by_word end w c b h = absurd (true≢false (sym (sym (sees_word w_crate end) ∙ w)))
by_word (punct d j sp m) w c b h = absurd (true≢false (sym (sym (sees_word w_crate (punct d j sp m)) ∙ w)))
by_word (group d o k i m) w c b h = absurd (true≢false (sym (sym (sees_word w_crate (group d o k i m)) ∙ w)))
by_word (leaf x sp m) w c b h =
    let (s, q, r, e) = bang_at m b (sym (sees_mark exclamation refl m) ∙ and_left (sees (at_mark exclamation) m) _ (sym (sees_but (at_mark exclamation) (at_mark not_equals) m) ∙ b)) h in
    record { path = path_of x sp; bang = s; following = m; rest = q; path_read = path_taken x sp m w c; bang_read = r; brace = e }

pub crate_pieces : (m : Stream) → sees at_crate_macro m ≡ true → Pieces m
crate_pieces m h =
    let e = sym (crate_macro_seen m) ∙ h in
    let f = and_right (sees at_lone_crate m) _ e in
    let l = sym (lone_crate_seen m) ∙ and_left (sees at_lone_crate m) _ e in
    by_word m (and_left (sees (at_word w_crate) m) _ l) (is_off (sees at_colons (past m)) (and_right (sees (at_word w_crate) m) _ l)) (and_left (sees at_bang (past m)) _ f) (and_right (sees at_bang (past m)) _ f)
