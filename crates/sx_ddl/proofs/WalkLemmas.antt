-- The items one after the other.
use Rattle.std.proofs.Common.{◌≡◌, ℕ, zero, suc, ◌<◌, true, false, if◌then◌else◌, List, [], ◌∷◌, length, drop, take, get_or, refl, ap, sym, ◌∙◌, arith, subst, Result, Ok, Err}
use Rattle.std.proofs.lemmas.List.{at_drop_more, drop-drop}
use Rattle.sx_ddl.specs.declared.token.Token.{Token}
use Rattle.sx_ddl.specs.declared.token.End.{End}
use Rattle.sx_ddl.specs.declared.refused.DdlRefused.{DdlRefused}
use Rattle.sx_ddl.specs.declared.refused.DdlRefused.TheVariants.{NotTable, Unknown, Generated, Memory}
use Rattle.sx_ddl.specs.Given.{Gives}
use Rattle.sx_ddl.specs.Items.{Found, Listed, item_len, ends_closed, found_behind, begins_closed, then_items, closed, items_from}

-- a refusal of an item is that of the list
pub refused_given : {B C : Type 0} (expected : Result Found DdlRefused) (refused : DdlRefused) (one : B → Found) (other : C → Listed) (next : Found → Result Listed DdlRefused) →
    Gives expected (Err refused) one → Gives (then_items expected next) (Err refused) other
refused_given expected NotTable one other next h = ap (λ e. then_items e next) h
refused_given expected (Unknown place) one other next h = ap (λ e. then_items e next) h
refused_given expected Generated one other next h = ap (λ e. then_items e next) h
refused_given expected Memory one other next h = tt

-- tokens that were read are passed over
pub tokens_passed : (end : End) (read : ℕ) (found : Found) (tokens : List Token) → items_from end read found tokens ≡ items_from end 0 found (drop read tokens)
unfolding items_from
tokens_passed end zero found tokens = refl
tokens_passed end (suc read) found [] = refl
tokens_passed end (suc read) found (token ∷ tokens) = tokens_passed end read found tokens

-- a first token and the others
pub whole : (tokens : List Token) (token : Token) → 0 < length tokens → tokens ≡ get_or tokens 0 token ∷ drop 1 tokens
whole tokens token h = at_drop_more (λ all. all) tokens 0 token h

-- what follows the item at the front
then_more : End → List Token → Found → Result Listed DdlRefused
then_more end tokens more = if ends_closed tokens then closed end more (drop (item_len 0 0 tokens) tokens) else items_from end (item_len 0 0 tokens) more (drop 1 tokens)

-- an item at the front
items_step : (end : End) (found : Found) (tokens : List Token) (token : Token) → 0 < length tokens →
    items_from end 0 found tokens ≡ then_items (found_behind found (get_or tokens 0 token) (take (item_len 0 0 tokens) tokens)) (then_more end tokens)
unfolding items_from then_more
items_step end found [] token h = absurd (omega arith)
items_step end found (first ∷ others) token h = refl

-- the item at the front of tokens, and the tokens behind it
pub record IsCut (tokens item behind : List Token) (len : ℕ) : Type 0 where
  pub len_is : len ≡ item_len 0 0 tokens
  pub front : item ≡ take len tokens
  pub back : behind ≡ drop len tokens

item_is : {tokens item behind : List Token} {len : ℕ} → IsCut tokens item behind len → item ≡ take (item_len 0 0 tokens) tokens
item_is {tokens = tokens} cut = cut.front ∙ ap (λ n. take n tokens) cut.len_is

behind_is : {tokens item behind : List Token} {len : ℕ} → IsCut tokens item behind len → behind ≡ drop (item_len 0 0 tokens) tokens
behind_is {tokens = tokens} cut = cut.back ∙ ap (λ n. drop n tokens) cut.len_is

-- an item that is refused
pub walk_refused : {B C : Type 0} (end : End) (found : Found) (tokens item behind : List Token) (len : ℕ) (token : Token) (all : Result Listed DdlRefused) (refused : DdlRefused) (one : B → Found) (other : C → Listed) →
    IsCut tokens item behind len → all ≡ items_from end 0 found tokens → 0 < length tokens →
    Gives (found_behind found (get_or tokens 0 token) item) (Err refused) one → Gives all (Err refused) other
walk_refused {B = B} end found tokens item behind len token all refused one other cut is h given =
    let P : Result Listed DdlRefused → Type 0 = λ e. Gives e (Err refused) other in
    let Q : List Token → Type 0 = λ i. Gives (found_behind found (get_or tokens 0 token) i) (Err refused) one in
    subst P (sym (is ∙ items_step end found tokens token h)) (refused_given _ refused one other (then_more end tokens) (subst Q (item_is cut) given))

-- what follows an item that is one
next_is : (end : End) (found more : Found) (tokens item behind : List Token) (len : ℕ) (token : Token) (all : Result Listed DdlRefused) →
    IsCut tokens item behind len → all ≡ items_from end 0 found tokens → 0 < length tokens →
    found_behind found (get_or tokens 0 token) item ≡ Ok more →
    all ≡ (if begins_closed behind then closed end more behind else items_from end (item_len 0 0 tokens) more (drop 1 tokens))
unfolding then_more ends_closed
next_is end found more tokens item behind len token all cut is h read =
    is ∙ items_step end found tokens token h
    ∙ ap (λ i. then_items (found_behind found (get_or tokens 0 token) i) (then_more end tokens)) (sym (item_is cut))
    ∙ ap (λ e. then_items e (then_more end tokens)) read
    ∙ ap (λ b. if begins_closed b then closed end more b else items_from end (item_len 0 0 tokens) more (drop 1 tokens)) (sym (behind_is cut))

-- an item that ends the list
pub walk_closes : {C : Type 0} (end : End) (found more : Found) (tokens item behind : List Token) (len : ℕ) (token : Token) (all : Result Listed DdlRefused) (result : Result C DdlRefused) (other : C → Listed) →
    IsCut tokens item behind len → all ≡ items_from end 0 found tokens → 0 < length tokens →
    found_behind found (get_or tokens 0 token) item ≡ Ok more → begins_closed behind ≡ true →
    Gives (closed end more behind) result other → Gives all result other
walk_closes end found more tokens item behind len token all result other cut is h read closes given =
    let P : Result Listed DdlRefused → Type 0 = λ e. Gives e result other in
    let step : all ≡ closed end more behind =
    next_is end found more tokens item behind len token all cut is h read
    ∙ ap (λ b. if b then closed end more behind else items_from end (item_len 0 0 tokens) more (drop 1 tokens)) closes in
    subst P (sym step) given

-- an item that others follow
pub walk_next : (end : End) (found more : Found) (tokens item behind rest : List Token) (len : ℕ) (token : Token) (all : Result Listed DdlRefused) →
    IsCut tokens item behind len → all ≡ items_from end 0 found tokens → 0 < length tokens →
    found_behind found (get_or tokens 0 token) item ≡ Ok more → begins_closed behind ≡ false → rest ≡ drop 1 behind →
    all ≡ items_from end 0 more rest
walk_next end found more tokens item behind rest len token all cut is h read closes others =
    next_is end found more tokens item behind len token all cut is h read
    ∙ ap (λ b. if b then closed end more behind else items_from end (item_len 0 0 tokens) more (drop 1 tokens)) closes
    ∙ tokens_passed end (item_len 0 0 tokens) more (drop 1 tokens)
    ∙ ap (items_from end 0 more) (drop-drop (item_len 0 0 tokens) 1 tokens ∙ ap (λ n. drop n tokens) (omega arith) ∙ sym (drop-drop 1 (item_len 0 0 tokens) tokens) ∙ ap (drop 1) (sym (behind_is cut)) ∙ sym others)

-- no item more
pub walk_ends : (end : End) (found : Found) (tokens : List Token) → length tokens ≡ 0 → items_from end 0 found tokens ≡ Err (Unknown end.at)
unfolding items_from
walk_ends end found [] h = refl
walk_ends end found (token ∷ tokens) h = absurd (omega arith)
