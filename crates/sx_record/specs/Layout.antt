-- A record in the words of its format: texts that stand one after the other ("Record Format").
use Rattle.std.specs.Prelude.{◌≡◌, ◌≢◌, ℕ, ◌+◌, true, false, List, [], ◌∷◌, ◌++◌, length}
use Rattle.std.specs.List.{list_any}
use Rattle.sx_bytes.specs.Varints.{IsVarint}
use Rattle.sx_record.specs.Content.{Content}
use Rattle.sx_record.specs.SerialTypes.{body_len, is_unused, content_in}
use Rattle.sx_record.specs.Records.{bodies_len}

-- the bytes spell the types, one after the other
abbrev pub IsTypes : List ℕ → List ℕ → Type 0
IsTypes [] bytes = bytes ≡ []
IsTypes (type ∷ types) bytes = (first : List ℕ) × (rest : List ℕ) × (bytes ≡ first ++ rest) × IsVarint first type × IsTypes types rest

-- the bytes are the bodies of the types, one after the other, and the columns hold what these say
abbrev pub IsBodies : List ℕ → List ℕ → List Content → Type 0
IsBodies [] bytes columns = (bytes ≡ []) × (columns ≡ [])
IsBodies (type ∷ types) bytes columns =
    (body : List ℕ) × (rest : List ℕ) × (others : List Content)
    × (bytes ≡ body ++ rest) × (length body ≡ body_len type) × (columns ≡ content_in type body ∷ others) × IsBodies types rest others

-- a payload is the size of its header, the types and what is behind them; the size counts its own bytes
pub record IsSized (payload types_text bodies : List ℕ) : Type 0 where
  pub size : ℕ
  pub size_text : List ℕ
  pub parts : payload ≡ size_text ++ (types_text ++ bodies)
  pub spells : IsVarint size_text size
  pub counts : size ≡ length size_text + length types_text

-- a payload begins with a header of these types, and these bytes are behind it
pub record HasHeader (payload types bodies : List ℕ) : Type 0 where
  pub types_text : List ℕ
  pub sized : IsSized payload types_text bodies
  pub spelled : IsTypes types types_text

-- a payload is a record with these columns
pub record IsRecord (payload : List ℕ) (columns : List Content) : Type 0 where
  pub types : List ℕ
  pub bodies : List ℕ
  pub header : HasHeader payload types bodies
  pub used : list_any is_unused types ≡ false
  pub filled : IsBodies types bodies columns

-- a payload has a header, and one of its types is unused
pub record IsUnusable (payload : List ℕ) : Type 0 where
  pub types : List ℕ
  pub bodies : List ℕ
  pub header : HasHeader payload types bodies
  pub unused : list_any is_unused types ≡ true

-- a payload has a header of used types, and what is behind it isn't as long as their bodies
pub record IsMisfilled (payload : List ℕ) : Type 0 where
  pub types : List ℕ
  pub bodies : List ℕ
  pub header : HasHeader payload types bodies
  pub used : list_any is_unused types ≡ false
  pub other : bodies_len types ≢ length bodies
