-- What an examination answers where nothing failed.
use Rattle.std.proofs.Common.{◌≡◌, ◌⊎◌, ◌++◌, ℕ, List, Option, None, Some, Result, Ok, Err, IsErrOf, inl, inr, refl, ap}
use Rattle.std.specs.Io.KnownBytes.{Appends}
use Rattle.sx_base.specs.Causes.{Rose}
use Rattle.sx_base.specs.Files.{Files}
use Rattle.sx_words.specs.Words.{Asked}
use Rattle.sx_app.specs.Answers.{Answer, Answers, answer}
use Rattle.sx_app.specs.declared.refused.Refused.{Refused}
use Rattle.sx_app.specs.declared.refused.Refused.TheVariants.{ReadFault, WriteFault, Memory}

-- what a sink that tells its bytes has taken
appended : (taken : List ℕ) (now : Option (List ℕ)) (text : List ℕ) → Appends (Some taken) now text → now ≡ Some (taken ++ text)
appended taken None text none = absurd none
appended taken (Some new) text is = ap Some is

whole : (given : Answer) (store_before store_now sink_before sink_now : ℕ) (taken : List ℕ) (now : Option (List ℕ)) (result : Result (Unit {0}) Refused)
    → Answers given (Some taken) now result
    → (IsErrOf result ReadFault → Rose store_before store_now)
    → (IsErrOf result WriteFault → Rose sink_before sink_now)
    → (Rose store_before store_now → ⊥)
    → (Rose sink_before sink_now → ⊥)
    → (result ≡ Err Memory) ⊎ ((result ≡ given.result) × (now ≡ Some (taken ++ given.text)))
whole given store_before store_now sink_before sink_now taken now (Ok done) told read write calm still = inr (told.0, appended taken now given.text told.1)
whole given store_before store_now sink_before sink_now taken now (Err ReadFault) told read write calm still = absurd (calm (read refl))
whole given store_before store_now sink_before sink_now taken now (Err WriteFault) told read write calm still = absurd (still (write refl))
whole given store_before store_now sink_before sink_now taken now (Err Memory) told read write calm still = inl refl
whole given store_before store_now sink_before sink_now taken now (Err _) told read write calm still = inr (told.0, appended taken now given.text told.1)

pub complete : (asked : Option Asked) (files : Files) (store_before store_now sink_before sink_now : ℕ) (taken : List ℕ) (now : Option (List ℕ)) (result : Result (Unit {0}) Refused)
    → Answers (answer asked files) (Some taken) now result
    → (IsErrOf result ReadFault → Rose store_before store_now)
    → (IsErrOf result WriteFault → Rose sink_before sink_now)
    → (Rose store_before store_now → ⊥)
    → (Rose sink_before sink_now → ⊥)
    → (result ≡ Err Memory) ⊎ ((result ≡ (answer asked files).result) × (now ≡ Some (taken ++ (answer asked files).text)))
complete asked files = whole (answer asked files)
