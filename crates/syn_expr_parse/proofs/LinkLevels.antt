-- How many tokens are left to look at in a group and in those around it.
use Rattle.std.proofs.Common.{◌≡◌, ℕ, ◌+◌, ◌*◌, ◌<◌, List, [], ◌∷◌, ◌++◌, Option, Some, None, IfSome, arith, sum_by, ap, ◌∙◌}
use Rattle.std.proofs.lemmas.List.Sums.{sum_by_push}
use Rattle.syn_grammar.specs.Tokens.{Stream, end}
use Rattle.syn_grammar.specs.Take.{left}
use Rattle.syn_tokens.specs.Cursors.{before_next}
use Rattle.syn_tokens.specs.declared.stream.cursor.GroupRef.{GroupRef}
use Rattle.syn_tokens.specs.declared.stream.cursor.TokenTreeRef.{TokenTreeRef}
use Rattle.syn_tokens.specs.declared.stream.cursor.TokenTreeRef.TheVariants as N
use Rattle.syn_expr_parse.specs.declared.parsing.chains.level.Level.{Level}

-- a group that is left later counts one more
abbrev pub to_pass : Level → ℕ
to_pass level = 2 * left level.rest + 1

left_next : (t : TokenTreeRef) (m : Stream) → left (before_next t m) ≡ left (before_next t end) + left m
unfolding left
left_next (N.Ident i) m = omega arith
left_next (N.Literal l) m = omega arith
left_next (N.Punct p) m = omega arith
left_next (N.Group g) m = omega arith

left_first : (t : TokenTreeRef) → 0 < left (before_next t end)
unfolding left
left_first (N.Ident i) = omega arith
left_first (N.Literal l) = omega arith
left_first (N.Punct p) = omega arith
left_first (N.Group g) = omega arith

pub fewer_inside : (g : GroupRef) → left g.content < left (before_next (N.Group g) end)
unfolding left
fewer_inside g = omega arith

-- after a tree
pub passed : (t : TokenTreeRef) (old m new : Stream) → old ≡ before_next t m → new ≡ m → left new < left old
passed t old m new e f =
    let a : left old ≡ left (before_next t m) = ap left e in
    let b : left new ≡ left m = ap left f in
    omega (arith, a, b, left_next t m, left_first t)

-- inside of a group
pub entered : (t : TokenTreeRef) (old m inner : Stream) (l k : List Level) (h : Level) → old ≡ before_next t m → h.rest ≡ m → left inner < left (before_next t end) → k ≡ l ++ h ∷ [] →
    2 * left inner + sum_by to_pass k < 2 * left old + sum_by to_pass l
entered t old m inner l k h e f less p =
    let a : left old ≡ left (before_next t m) = ap left e in
    let b : left h.rest ≡ left m = ap left f in
    let s : sum_by to_pass k ≡ sum_by to_pass l + (2 * left h.rest + 1) = ap (sum_by to_pass) p ∙ sum_by_push to_pass l h in
    omega (arith, a, b, s, less, left_next t m)

-- the content of a group that was looked at
pub group_level : (g : GroupRef) (t : TokenTreeRef) (result : Option Level) → t ≡ N.Group g → IfSome result (λ inner. inner.rest ≡ g.content) → IfSome result (λ inner. left inner.rest < left (before_next t end))
group_level g t None e h = h
group_level g t (Some inner) e h =
    let a : left inner.rest ≡ left g.content = ap left h in
    let b : left (before_next t end) ≡ left (before_next (N.Group g) end) = ap (λ t. left (before_next t end)) e in
    omega (arith, a, b, fewer_inside g)
