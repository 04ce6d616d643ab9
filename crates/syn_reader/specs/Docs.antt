-- THE CONTENTS OF DOC COMMENTS.
use Rattle.std.specs.Prelude.{◌≡◌, ◌≢◌, ◌⊎◌, ℕ, Bool, true, false, ◌==◌, List, [], ◌∷◌, ◌++◌, codes, if◌then◌else◌}
use Rattle.std.specs.Char.{encode_utf8}

-- the comment consists of this prefix, the text, and the suffix
abbrev pub IsBetween : List ℕ → List ℕ → List ℕ → List ℕ → Type 0
IsBetween group_delimiter text last comment = comment ≡ group_delimiter ++ (text ++ last)

abbrev pub Lacks : List ℕ → List ℕ → Type 0
Lacks group_delimiter comment = (rest : List ℕ) → comment ≢ group_delimiter ++ rest

-- The comment documents the item around it (true): `//!`, `/*! */`; or the item after it (false): `///` but not `////`, and
-- `/** */` but not `/***`. (Nor `/**/`, whose start and end overlap.)
abbrev pub IsDoc : List ℕ → Bool → List ℕ → Type 0
IsDoc comment true text = (comment ≡ codes "//!" ++ text) ⊎ IsBetween (codes "/*!") text (codes "*/") comment
IsDoc comment false text =
    ((comment ≡ codes "///" ++ text) × Lacks (codes "////") comment) ⊎ (IsBetween (codes "/**") text (codes "*/") comment × Lacks (codes "/***") comment)

-- it is not a doc comment
abbrev pub IsNoDoc : List ℕ → Type 0
IsNoDoc comment = (inner : Bool) (text : List ℕ) → IsDoc comment inner text → ⊥

-- a character, escaped as in a string literal
unfoldable pub escaped : ℕ → List ℕ
escaped c =
    if c == 92 then codes "\\\\"
    else if c == 34 then codes "\\\""
    else if c == 10 then codes "\\n"
    else if c == 13 then codes "\\r"
    else if c == 9 then codes "\\t"
    else encode_utf8 c

abbrev pub all_escaped : List ℕ → List ℕ
all_escaped [] = []
all_escaped (c ∷ cs) = escaped c ++ all_escaped cs

-- these characters as a string literal
abbrev pub quoted : List ℕ → List ℕ
quoted cs = codes "\"" ++ (all_escaped cs ++ codes "\"")
