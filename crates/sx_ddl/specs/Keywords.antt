-- Keywords of the text of a table: words whose ASCII letters may have either case.
use Rattle.std.specs.Prelude.{ℕ, Bool, List, map, codes, bytes_eq, if◌then◌else◌}
use Rattle.std.specs.Char.{to_ascii_lowercase}
use Rattle.sx_ddl.specs.declared.keyword.Keyword.{Keyword}
use Rattle.sx_ddl.specs.declared.keyword.Keyword.TheVariants as words

-- a name with its ASCII letters in lower case
abbrev pub lowered : List ℕ → List ℕ
lowered name = map to_ascii_lowercase name

-- a word is spelled so, whatever the case of its ASCII letters
unfoldable pub is_spelled : List ℕ → List ℕ → Bool
is_spelled word name = bytes_eq (lowered word) (lowered name)

-- what a word means
unfoldable pub keyword_of : List ℕ → Keyword
keyword_of word =
    if is_spelled word (codes "as") then words.As else (
    if is_spelled word (codes "check") then words.Check else (
    if is_spelled word (codes "collate") then words.Collate else (
    if is_spelled word (codes "constraint") then words.Constraint else (
    if is_spelled word (codes "create") then words.Create else (
    if is_spelled word (codes "default") then words.Default else (
    if is_spelled word (codes "desc") then words.Desc else (
    if is_spelled word (codes "foreign") then words.Foreign else (
    if is_spelled word (codes "generated") then words.Generated else (
    if is_spelled word (codes "integer") then words.Integer else (
    if is_spelled word (codes "key") then words.Key else (
    if is_spelled word (codes "not") then words.Not else (
    if is_spelled word (codes "null") then words.Null else (
    if is_spelled word (codes "primary") then words.Primary else (
    if is_spelled word (codes "references") then words.References else (
    if is_spelled word (codes "rowid") then words.Rowid else (
    if is_spelled word (codes "strict") then words.Strict else (
    if is_spelled word (codes "table") then words.Table else (
    if is_spelled word (codes "unique") then words.Unique else (
    if is_spelled word (codes "without") then words.Without else (
    words.Other))))))))))))))))))))
