-- The moment that the words ask for.
use Rattle.std.specs.Prelude.{if◌then◌else◌, length, Option, None, Some, Result, Ok, Err, ⊤}
use Rattle.std.specs.List.{last_or}
use Rattle.sx_base.specs.declared.moment.Moment.{Moment}
use Rattle.sx_base.specs.declared.moment.Moment.TheVariants.{Journal, File, Commit}
use Rattle.sx_moment.specs.Gathered.{Gathered, is_moment, moments_of}
use Rattle.sx_words.specs.declared.request.When.{When}
use Rattle.sx_words.specs.declared.request.When.TheVariants.{Last, At}
use Rattle.sx_app.specs.declared.refused.Refused.{Refused}
use Rattle.sx_app.specs.declared.refused.Refused.TheVariants.{NoMoment}

-- the moment that is asked for, where it is one of the evidence: the last, or the one that is named
abbrev pub moment_named : Gathered → When → Option Moment
moment_named case Last = last_or None (moments_of case)
moment_named case (At moment) = if is_moment case moment then Some moment else None

-- a moment, or that there is none; the refusal carries the number of commits
abbrev pub there : Gathered → Option Moment → Result Moment Refused
there case None = Err (NoMoment (length case.wal.commits))
there case (Some moment) = Ok moment

unfoldable pub moment_of : Gathered → When → Result Moment Refused
moment_of case at = there case (moment_named case at)

-- words that can ask for a moment that isn't there: the journal's, or a commit
abbrev pub CanMiss : When → Type 0
CanMiss Last = ⊥
CanMiss (At Journal) = ⊤
CanMiss (At File) = ⊥
CanMiss (At (Commit k)) = ⊤

-- what looking for a moment may meet
abbrev pub MayMiss : When → Refused → Type 0
MayMiss at (NoMoment commits) = CanMiss at
MayMiss at refused = ⊥
