-- A primary expression: what it is read as.
use Rattle.std.proofs.Common.{◌≡◌, Bool, true, false, Some, None, refl, sym, ap, ◌∙◌}
use Rattle.syn_grammar.specs.Words.{w_break, w_continue, w_false, w_return, w_true}
use Rattle.syn_grammar.specs.Tokens.{Stream, end, leaf, punct, group, or, pick, at_lifetime, at_word}
use Rattle.syn_grammar.specs.Shape.{Variant, Block, Break, Continue, Grouped, Lit, Macro, Path, Return, bracketed, chain, fields}
use Rattle.syn_grammar.specs.Rules.{block_like, constant, macro_invocation, path_as_expression, plain_body, primary}
use Rattle.syn_grammar.specs.Grammar.{Grammar, Kind, Syntax, Nothing, Both, Node, Token, empty, ◌&◌, when◌then◌else◌, any_literal, fits, rule, word}
use Rattle.syn_grammar.specs.Forms.{never}
use Rattle.syn_grammar.specs.Table.{at_any_literal, at_block_like, at_brace, at_bracket, at_invisible, at_lit, at_macro, at_paren}
use Rattle.syn_grammar.specs.Take.{Out, only, sees, take_token}
use Rattle.syn_grammar.specs.Values.{core, new, shape}
use Rattle.syn_grammar.specs.Run.{and_then, branch, parse_form, parse_rule, wrap}
use Rattle.syn_grammar.proofs.Each.{constant_is, primary_is, primary_head_is}
use Rattle.syn_grammar.proofs.Looks.{sees_or}
use Rattle.syn_lower.specs.Literals.{lit_form}
use Rattle.syn_expr_parse.specs.Parts.{token_of}
use Rattle.syn_expr_parse.specs.Postfixes.{arguments_form}
use Rattle.syn_expr_parse.specs.Spots.{Spot, within}
use Rattle.syn_expr_parse.specs.Then.{then_by}
use Rattle.syn_expr_parse.specs.Primary.{before_paths, after_path, braces_form, bracketed_of, break_form, brackets_form, continue_form, group_form, constant_out, in_literal, jump_or_path, literal_form, no_literal, path_out, primary_out, return_form}
use Rattle.syn_expr_parse.specs.declared.parsing.nested.Spot.TheVariants as Spot-m

core_branch : (b : Bool) (x y x' y' : Out) → wrap core x ≡ x' → wrap core y ≡ y' → wrap core (branch b x y) ≡ pick b x' y'
core_branch true None y x' y' e f = e
core_branch true (Some p) y x' y' e f = e
core_branch false x None x' y' e f = f
core_branch false x (Some p) x' y' e f = f

core_new : (v : Variant) (o : Out) → wrap core (wrap (new v) o) ≡ wrap (new v) o
core_new v None = refl
core_new v (Some p) = refl

core_bracketed : (o : Out) → wrap core (wrap (shape bracketed) o) ≡ bracketed_of o
core_bracketed None = refl
core_bracketed (Some p) = refl

module _ (p : Spot) (ts : Stream) (path : Out) (path_is : wrap core path ≡ path_out p ts) where
  jumps : wrap core (branch (sees (at_word w_return) ts) (wrap (new Return) (parse_form (return_form p) ts)) (branch (sees (at_word w_break) ts) (wrap (new Break) (parse_form break_form ts))
      (branch (sees (at_word w_continue) ts) (wrap (new Continue) (parse_form continue_form ts)) path))) ≡ jump_or_path p ts
  jumps =
      core_branch (sees (at_word w_return) ts) _ _ _ _ (core_new Return (parse_form (return_form p) ts)) (core_branch (sees (at_word w_break) ts) _ _ _ _ (core_new Break (parse_form break_form ts))
      (core_branch (sees (at_word w_continue) ts) _ _ _ _ (core_new Continue (parse_form continue_form ts)) path_is))

  no_literals : wrap core (branch (sees at_macro ts) (wrap (new Macro) (parse_rule macro_invocation ts)) (branch (sees at_paren ts) (wrap (shape bracketed) (parse_form arguments_form ts))
      (branch (sees at_bracket ts) (wrap (shape bracketed) (parse_form brackets_form ts)) (branch (sees at_invisible ts) (wrap (new Grouped) (parse_form group_form ts))
      (branch (sees at_block_like ts) (parse_rule block_like ts) (branch (sees (at_word w_return) ts) (wrap (new Return) (parse_form (return_form p) ts)) (branch (sees (at_word w_break) ts) (wrap (new Break) (parse_form break_form ts))
      (branch (sees (at_word w_continue) ts) (wrap (new Continue) (parse_form continue_form ts)) path)))))))) ≡ no_literal p ts
  no_literals =
      core_branch (sees at_macro ts) _ _ _ _ (core_new Macro (parse_rule macro_invocation ts)) (core_branch (sees at_paren ts) _ _ _ _ (core_bracketed (parse_form arguments_form ts))
      (core_branch (sees at_bracket ts) _ _ _ _ (core_bracketed (parse_form brackets_form ts)) (core_branch (sees at_invisible ts) _ _ _ _ (core_new Grouped (parse_form group_form ts))
      (core_branch (sees at_block_like ts) _ _ _ _ refl jumps))))

-- three literals, and the others
literals : (a b c : Bool) (x y z o o' : Out) → wrap token_of x ≡ x → wrap token_of y ≡ y → wrap token_of z ≡ z → wrap core o ≡ o' →
    wrap core (branch a (wrap (new Lit) x) (branch b (wrap (new Lit) y) (branch c (wrap (new Lit) z) o))) ≡ pick (or a (or b c)) (wrap (new Lit) (wrap token_of (branch a x (branch b y z)))) o'
literals true b c None y z o o' e f g h = refl
literals true b c (Some p) y z o o' e f g h = ap (wrap (new Lit)) (sym e)
literals false true c x None z o o' e f g h = refl
literals false true c x (Some p) z o o' e f g h = ap (wrap (new Lit)) (sym f)
literals false false true x y None o o' e f g h = refl
literals false false true x y (Some p) o o' e f g h = ap (wrap (new Lit)) (sym g)
literals false false false x y z None o' e f g h = h
literals false false false x y z (Some p) o' e f g h = h

-- a literal alone
lone_literals : (a b : Bool) (x y z : Out) → wrap token_of x ≡ x → wrap token_of y ≡ y → wrap token_of z ≡ z →
    wrap core (branch a (wrap (new Lit) x) (branch b (wrap (new Lit) y) (wrap (new Lit) z))) ≡ wrap (new Lit) (wrap token_of (branch a x (branch b y z)))
lone_literals true b None y z e f g = refl
lone_literals true b (Some p) y z e f g = ap (wrap (new Lit)) (sym e)
lone_literals false true x None z e f g = refl
lone_literals false true x (Some p) z e f g = ap (wrap (new Lit)) (sym f)
lone_literals false false x y None e f g = refl
lone_literals false false x y (Some p) e f g = ap (wrap (new Lit)) (sym g)

-- a token is itself
token_taken : (k : Kind) (ts : Stream) → wrap token_of (take_token k ts) ≡ take_token k ts
unfolding take_token
token_taken k end = refl
token_taken k (punct c j sp m) = refl
token_taken k (group d o c i m) = refl
token_taken k (leaf x sp m) = go (fits k x)
  where
    go : (b : Bool) → wrap token_of (only b (Some (Token x sp, m))) ≡ only b (Some (Token x sp, m))
    go true = refl
    go false = refl

literal_seen : (ts : Stream) → or (sees (at_word w_true) ts) (or (sees (at_word w_false) ts) (sees at_any_literal ts)) ≡ sees at_lit ts
literal_seen ts = sym (sees_or (at_word w_true) _ ts ∙ ap (or (sees (at_word w_true) ts)) (sees_or (at_word w_false) at_any_literal ts))

primary_by : (p : Spot) (ts : Stream) (path : Out) → wrap core path ≡ path_out p ts → wrap core (before_paths p ts path) ≡ primary_out p ts
primary_by p ts path h =
    literals (sees (at_word w_true) ts) (sees (at_word w_false) ts) (sees at_any_literal ts) (take_token (word w_true) ts) (take_token (word w_false) ts) (take_token any_literal ts) _ (no_literal p ts)
    (token_taken (word w_true) ts) (token_taken (word w_false) ts) (token_taken any_literal ts) (no_literals p ts path h)
    ∙ ap (λ b. pick b (wrap (new Lit) (wrap token_of (parse_form lit_form ts))) (no_literal p ts)) (literal_seen ts)

-- a path, and the braces after it
with_braces : (o : Out) → wrap core (wrap (shape chain) (and_then (wrap (new Path) o) (parse_form braces_form))) ≡ then_by o after_path
with_braces None = refl
with_braces (Some p) = go (sees at_brace p.1) (parse_form literal_form p.1)
  where
    go : (b : Bool) (o : Out) → wrap core (wrap (shape chain) (wrap (Both (new Path p.0)) (branch b (wrap (shape fields) o) (Some (Nothing, p.1))))) ≡ pick b (wrap (in_literal p.0) o) (Some (new Path p.0, p.1))
    go true None = refl
    go true (Some q) = refl
    go false o = refl

pub primary_are : (p : Spot) (ts : Stream) → parse_rule (within p primary) ts ≡ wrap Node (primary_out p ts)
primary_are Spot-m.Anywhere ts = primary_is ts ∙ ap (wrap Node) (primary_by Spot-m.Anywhere ts _ (with_braces (parse_rule path_as_expression ts)))
primary_are Spot-m.Head ts = primary_head_is ts ∙ ap (wrap Node) (primary_by Spot-m.Head ts _ (core_new Path (parse_rule path_as_expression ts)))

-- a block without a label
abbrev unlabelled : Grammar
unlabelled = (when at_lifetime then never else empty) & rule plain_body

pub constant_are : (ts : Stream) → parse_rule constant ts ≡ wrap Node (constant_out ts)
constant_are ts =
    constant_is ts
    ∙ ap (wrap Node) (core_branch (sees at_brace ts) _ _ _ _ (core_new Block (parse_form unlabelled ts))
    (lone_literals (sees (at_word w_true) ts) (sees (at_word w_false) ts) (take_token (word w_true) ts) (take_token (word w_false) ts) (take_token any_literal ts)
    (token_taken (word w_true) ts) (token_taken (word w_false) ts) (token_taken any_literal ts)))
