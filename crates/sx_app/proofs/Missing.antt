-- Which words can ask for a moment that isn't there.
use Rattle.std.proofs.Common.{◌≡◌, Bool, true, false, IsTrue, Option, Some, None, Result, Ok, Err, IfOk, IfErr, if◌then◌else◌, ap, sym, subst}
use Rattle.std.specs.List.{last_or}
use Rattle.sx_base.specs.declared.moment.Moment.{Moment}
use Rattle.sx_base.specs.declared.moment.Moment.TheVariants.{Journal, File, Commit}
use Rattle.sx_moment.specs.Gathered.{Gathered, moments_of, is_moment}
use Rattle.sx_timeline_text.proofs.Listed as listed
use Rattle.sx_words.specs.declared.request.When.TheVariants.{At, Last}
use Rattle.sx_app.specs.Evidence.{◌>>=◌}
use Rattle.sx_app.specs.Moments.{CanMiss, moment_of, there}
use Rattle.sx_app.specs.Owed.{Fails, Gives}
use Rattle.sx_app.specs.declared.refused.Refused.{Refused}
use Rattle.sx_app.specs.declared.refused.Refused.TheVariants.{Usage, NoDatabase, BadHeader, TooLarge, NoMoment, Unreadable, NoTable, NoTree, NoByte, ReadFault, WriteFault, Memory}

-- a moment that isn't one of the case is the journal's, or a commit
pub can_miss : (case : Gathered) (moment : Moment) → false ≡ is_moment case moment → CanMiss (At moment)
can_miss case Journal none = tt
can_miss case File none = cc
can_miss case (Commit k) none = tt

-- the last moment is one of the case
pub last_is : (case : Gathered) (moment : Moment) → last_or None (moments_of case) ≡ Some moment → IsTrue (is_moment case moment)
last_is case moment last = listed.last_is case moment last

there_is : (case : Gathered) (found : Option Moment) (moment last : Moment) → found ≡ Some last → there case found ≡ Ok moment → moment ≡ last
there_is case None moment last is given = let clash : None ≡ Some last = is in absurd cc
there_is case (Some one) moment last is given = cc

-- the last moment is the one that is asked for
pub last_meant : (case : Gathered) (moment last : Moment) → last_or None (moments_of case) ≡ Some last → moment_of case Last ≡ Ok moment → moment ≡ last
unfolding moment_of
last_meant case moment last is given = there_is case (last_or None (moments_of case)) moment last is given

named_case : (case : Gathered) (moment named : Moment) (b : Bool) → there case (if b then Some named else None) ≡ Ok moment → moment ≡ named
named_case case moment named true given = cc
named_case case moment named false given = absurd cc

-- a moment that is named is the one that is asked for
pub named_meant : (case : Gathered) (moment named : Moment) → moment_of case (At named) ≡ Ok moment → moment ≡ named
unfolding moment_of
named_meant case moment named given = named_case case moment named (is_moment case named) given

-- what fails at its first step fails
pub fails_on : {X Y : Type 0} (refused : Refused) (given : Result X Refused) (next : X → Result Y Refused) → Fails refused given → Fails refused (given >>= next)
fails_on ReadFault given next fails = tt
fails_on Memory given next fails = tt
fails_on Usage given next fails = ap (λ first. first >>= next) fails
fails_on NoDatabase given next fails = ap (λ first. first >>= next) fails
fails_on (BadHeader fault) given next fails = ap (λ first. first >>= next) fails
fails_on (TooLarge part) given next fails = ap (λ first. first >>= next) fails
fails_on (NoMoment commits) given next fails = ap (λ first. first >>= next) fails
fails_on (Unreadable moment) given next fails = ap (λ first. first >>= next) fails
fails_on NoTable given next fails = ap (λ first. first >>= next) fails
fails_on (NoByte length) given next fails = ap (λ first. first >>= next) fails
fails_on WriteFault given next fails = ap (λ first. first >>= next) fails
fails_on NoTree given next fails = ap (λ first. first >>= next) fails

-- want of memory says nothing of what would have been given
pub memory_fails : {Y : Type 0} (refused : Refused) (given : Result Y Refused) → refused ≡ Memory → Fails refused given
memory_fails refused given is = subst (λ refused. Fails refused given) (sym is) tt

-- what was made, or that memory ran out
pub made_gives : {X Y : Type 0} (view : X → Y) (made : Result X Refused) (given : Y) → IfOk made (λ x. view x ≡ given) → IfErr made (λ refused. refused ≡ Memory)
    → Gives view made (Ok given)
made_gives view (Ok x) given told may = ap Ok (sym told)
made_gives view (Err refused) given told may = memory_fails refused (Ok given) may
