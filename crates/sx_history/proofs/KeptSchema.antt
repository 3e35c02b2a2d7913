-- The schema that is kept of a moment is that of the next, where no page that changed may be one of its tree.
use Rattle.std.proofs.Common.{◌≡◌, ℕ, ℤ, pos, ◌<◌, ◌≤◌, inl, inr, Bool, true, false, List, length, map, get_or, Option, sym, ap, subst, ◌∙◌, Contains}
use Rattle.sx_bytes.specs.declared.encoding.Encoding.{Encoding}
use Rattle.sx_schema.specs.declared.listing.Schema.{Schema}
use Rattle.sx_schema.specs.Entries.{schema_of}
use Rattle.sx_schema.specs.Given.{entries_by}
use Rattle.sx_history.specs.Marks.{AreMarked, IsNoted, IsWhole, is_marked, view_at}
use Rattle.sx_history.specs.Standing.{AreSteady, Covers, IsSteadyPage, IsWatched, StandBut}
use Rattle.sx_history.specs.Schemas.{AreStill, IfSchemaKept, IsSchemaKept, IsStillPage}
use Rattle.sx_history.proofs.Keeping.{among, first_watched, kept_at, law, listed, watched_still}
use Rattle.sx_history.proofs.SameSchema.{schema_same}

steady_page : (usable number : ℕ) (rowid : ℤ) (before now : Option (List ℕ)) (node chain : Bool) → IsStillPage before now node chain → IsSteadyPage usable number rowid before now node chain
steady_page usable number rowid before now node chain page = record {
  held = page.held;
  leaf = λ marked. inl (page.node_same marked);
  same = page.chain_same;
}

steady_all : (usable : ℕ) (rowid : ℤ) (numbers : List ℕ) (views : List (Option (List ℕ))) (view : ℕ → Option (List ℕ)) (nodes chains : List Bool) (changed : List ℕ)
    → AreStill numbers views view nodes chains changed → AreSteady usable rowid numbers views view nodes chains changed
steady_all usable rowid numbers views view nodes chains changed still rank there =
    steady_page usable (get_or numbers rank 0) rowid (view_at views rank) (view (get_or numbers rank 0)) (is_marked nodes rank) (is_marked chains rank) (still rank there)

module _ (numbers : List ℕ) (views : List (Option (List ℕ))) (size usable : ℕ) (encoding : Encoding) (schema : Schema) (nodes chains : List Bool)
    (kept : IsSchemaKept numbers views size usable encoding schema nodes chains) (next : ℕ → Option (List ℕ)) (changed : List ℕ) (covers : Covers numbers next)
    (stand : StandBut changed numbers views next) (whole : (number : ℕ) → IsWhole usable (next number)) (still : AreStill numbers views next nodes chains changed) where
  abbrev watched : IsWatched numbers views usable 1 nodes chains
  watched = kept.watched

  steady : AreSteady usable (pos 0) numbers views next nodes chains changed
  steady = steady_all usable (pos 0) numbers views next nodes chains changed still

  rank_same : (rank : ℕ) → rank < length numbers → is_marked nodes rank ≡ true → next (get_or numbers rank 0) ≡ watched.view (get_or numbers rank 0)
  rank_same rank within marked =
      let at = kept_at numbers views usable 1 nodes chains watched next changed covers stand whole rank within in
      elim (listed changed rank) [
        | inl there ↦ (still rank there).node_same marked ∙ at
        | inr other ↦ sym (stand rank within other) ∙ at
      ]

  noted_same : (number : ℕ) → IsNoted numbers nodes number → Contains numbers number → next number ≡ watched.view number
  noted_same number noted there =
      let at = noted there in
      subst (λ n. next n ≡ watched.view n) at.2 (rank_same at.0 at.1 at.3)

  all_same : (number : ℕ) → IsNoted numbers nodes number → next number ≡ watched.view number
  all_same number noted =
      elim (among numbers views usable 1 nodes chains watched next changed covers stand whole (pos 0) steady number) [
        | inl there ↦ noted_same number noted there
        | inr same ↦ same
      ]

  pub schema_still : entries_by schema ≡ schema_of size next usable encoding
  schema_still =
      kept.entries_are
      ∙ sym (schema_same size usable (pos 0) encoding watched.view next (IsNoted numbers nodes) (IsNoted numbers chains)
      (law numbers views usable 1 nodes chains watched next changed covers stand whole (pos 0) steady) all_same)

  pub kept_still : IsSchemaKept numbers (map next numbers) size usable encoding schema nodes chains
  unfolding watched_still
  kept_still = record {
    watched = watched_still numbers views usable 1 nodes chains watched next changed covers stand whole (pos 0) steady;
    entries_are = schema_still;
  }

-- what is kept, where it stands
pub if_kept : (stands : Bool) (numbers : List ℕ) (views : List (Option (List ℕ))) (size usable : ℕ) (encoding : Encoding) (schema : Schema) (nodes chains : List Bool) → stands ≡ true
    → IfSchemaKept stands numbers views size usable encoding schema nodes chains → IsSchemaKept numbers views size usable encoding schema nodes chains
if_kept true numbers views size usable encoding schema nodes chains is kept = kept
if_kept false numbers views size usable encoding schema nodes chains is kept = let clash : false ≡ true = is in absurd cc

-- the schema of a moment, as it is kept
pub first_kept : (numbers : List ℕ) (views : List (Option (List ℕ))) (size pages usable : ℕ) (encoding : Encoding) (schema : Schema) (nodes chains : List Bool) (next : ℕ → Option (List ℕ))
    → Covers numbers next → views ≡ map next numbers → 480 ≤ usable → ((number : ℕ) → IsWhole usable (next number)) → size ≡ pages
    → entries_by schema ≡ schema_of pages next usable encoding → AreMarked numbers views usable 1 nodes chains → IsSchemaKept numbers views size usable encoding schema nodes chains
unfolding first_watched
first_kept numbers views size pages usable encoding schema nodes chains next covers are least whole sizes entries marked = record {
  watched = first_watched numbers views usable 1 nodes chains next covers are least whole marked;
  entries_are = entries ∙ ap (λ n. schema_of n next usable encoding) (sym sizes);
}
