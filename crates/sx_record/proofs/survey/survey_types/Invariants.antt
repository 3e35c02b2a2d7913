use Rattle.std.proofs.Common.{◌≡◌, ◌+◌, ◌≤◌, length}
use Rattle.std.specs.Option.{option_map}
use Rattle.sx_record.specs.Records.{types_in, survey_of}
use Rattle.sx_record.specs.Surveys.{survey_behind}
use Rattle.sx_record.proofs.survey.survey_types.Given as goal

abbrev pub invariant-loop-rest : goal.invariant-loop-rest
invariant-loop-rest l = record {
  few : l.columns + length l.rest ≤ length l.types;
  same : option_map (survey_behind l.columns l.unused l.left) (types_in l.rest) ≡ option_map (survey_of l.room) (types_in l.types);
}

abbrev pub decreases-loop-rest : goal.decreases-loop-rest
decreases-loop-rest l = length l.rest
