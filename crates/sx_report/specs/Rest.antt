-- How far the writing of a report has come: the text of members and items one by one.
use Rattle.std.specs.Prelude.{ℕ, Bool, true, false, List, [], ◌∷◌, ◌++◌, map, codes}
use Rattle.json.specs.Print.{quoted}
use Rattle.serde_json.specs.Data.{Data}
use Rattle.serde_json.specs.View.{items_of}
use Rattle.serde_json.specs.Written.{comma_if, compact_text, items_text}
use Rattle.sx_report.specs.declared.facts.MomentFacts.{MomentFacts}
use Rattle.sx_report.specs.Facts.{Facts}
use Rattle.sx_report.specs.Report.{count, file_data, journal_data, moment_data, wal_data}

-- a member's name with its colon, behind others where there are some
unfoldable pub name_text : Bool → List ℕ → List ℕ
name_text later name = comma_if later ++ (quoted name ++ 58 ∷ [])

-- a member
unfoldable pub member_text : Bool → List ℕ → Data → List ℕ
member_text later name value = comma_if later ++ (quoted name ++ 58 ∷ compact_text value)

-- the members before the moments, with the brace that opens the object
unfoldable pub front_text : Facts → List ℕ
front_text facts =
    123 ∷ (member_text false (codes "candidates") (count facts.candidates)
    ++ (member_text true (codes "database") (file_data facts.database)
    ++ member_text true (codes "journal") (journal_data facts.journal)))

-- those behind them, with the brace that closes it
unfoldable pub end_text : Facts → List ℕ
end_text facts =
    member_text true (codes "pagesize") (count facts.page_size)
    ++ (member_text true (codes "usable") (count facts.usable)
    ++ (member_text true (codes "wal") (wal_data facts.wal)
    ++ 125 ∷ []))

-- a moment
unfoldable pub item_text : Bool → MomentFacts → List ℕ
item_text later moment = comma_if later ++ compact_text (moment_data moment)

-- the moments to come with the closing bracket, behind others where there are some
unfoldable pub moments_rest : Bool → List MomentFacts → List ℕ
moments_rest later moments = items_text later (items_of (map moment_data moments))
