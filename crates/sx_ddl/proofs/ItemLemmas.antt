-- Items token by token.
use Rattle.std.proofs.Common.{◌≡◌, ℕ, ◌+◌, ◌<◌, ◌≤◌, true, false, ◌||◌, if◌then◌else◌, List, [], ◌∷◌, ◌++◌, length, drop, take, get_or, refl, ap, sym, ◌∙◌, append_assoc, append-nil}
use Rattle.std.proofs.Math.ListN.{drop_of_length-le}
use Rattle.std.proofs.lemmas.List.{at_drop_more}
use Rattle.sx_ddl.specs.declared.token.Kind.{Kind}
use Rattle.sx_ddl.specs.declared.token.Token.{Token}
use Rattle.sx_ddl.specs.Items.{item_len, ends_item, depth_behind, outside, outer_kind, begins_key, has_key, keys_of, sole_key}

-- an item that ends at a token
pub len_here : (tokens : List Token) (token : Token) (depth place : ℕ) → place < length tokens → ends_item depth (get_or tokens place token).kind ≡ true →
    item_len depth place (drop place tokens) ≡ place
unfolding item_len
len_here tokens token depth place h ends =
    at_drop_more (item_len depth place) tokens place token h
    ∙ ap (λ b. if b then place else item_len (depth_behind depth (get_or tokens place token).kind) (place + 1) (drop (place + 1) tokens)) ends

-- an item past one more token
pub len_next : (tokens : List Token) (token : Token) (depth behind place : ℕ) → place < length tokens → ends_item depth (get_or tokens place token).kind ≡ false →
    behind ≡ depth_behind depth (get_or tokens place token).kind → item_len depth place (drop place tokens) ≡ item_len behind (place + 1) (drop (place + 1) tokens)
unfolding item_len
len_next tokens token depth behind place h ends is =
    at_drop_more (item_len depth place) tokens place token h
    ∙ ap (λ b. if b then place else item_len (depth_behind depth (get_or tokens place token).kind) (place + 1) (drop (place + 1) tokens)) ends
    ∙ ap (λ d. item_len d (place + 1) (drop (place + 1) tokens)) (sym is)

-- an item without an end
pub len_stop : (tokens : List Token) (depth place : ℕ) → length tokens ≤ place → item_len depth place (drop place tokens) ≡ place
unfolding item_len
len_stop tokens depth place h = rw (drop_of_length-le tokens h) refl

-- what stands outside, past one more token
pub outside_next : (tokens : List Token) (token : Token) (depth behind place : ℕ) (front now : List Kind) → place < length tokens →
    now ≡ front ++ outer_kind depth (get_or tokens place token).kind → behind ≡ depth_behind depth (get_or tokens place token).kind →
    front ++ outside depth (drop place tokens) ≡ now ++ outside behind (drop (place + 1) tokens)
unfolding outside
outside_next tokens token depth behind place front now h more is =
    ap (λ rest. front ++ rest) (at_drop_more (outside depth) tokens place token h)
    ∙ sym (append_assoc front _ _)
    ∙ ap (λ d. (front ++ outer_kind depth (get_or tokens place token).kind) ++ outside d (drop (place + 1) tokens)) (sym is)
    ∙ ap (λ f. f ++ outside behind (drop (place + 1) tokens)) (sym more)

pub outside_stop : (tokens : List Token) (depth place : ℕ) (front : List Kind) → length tokens ≤ place → front ++ outside depth (drop place tokens) ≡ front
unfolding outside
outside_stop tokens depth place front h = rw (drop_of_length-le tokens h) (append-nil front)

-- a key, past one more place
pub key_step : (kinds : List Kind) (place : ℕ) (kind : Kind) → place < length kinds → has_key (drop place kinds) ≡ (begins_key (drop place kinds) || has_key (drop (place + 1) kinds))
unfolding has_key
key_step kinds place kind h = let whole : drop place kinds ≡ get_or kinds place kind ∷ drop (place + 1) kinds = at_drop_more (λ rest. rest) kinds place kind h in rw whole refl

pub key_stop : (kinds : List Kind) (place : ℕ) → length kinds ≤ place → has_key (drop place kinds) ≡ false
unfolding has_key
key_stop kinds place h = rw (drop_of_length-le kinds h) refl

-- the keys, past one more token
pub keys_next : (tokens : List Token) (token : Token) (depth behind place : ℕ) (front now rest : List Token) → place < length tokens → rest ≡ drop place tokens →
    now ≡ front ++ sole_key depth rest → behind ≡ depth_behind depth (get_or tokens place token).kind →
    front ++ keys_of depth (drop place tokens) ≡ now ++ keys_of behind (drop (place + 1) tokens)
unfolding keys_of
keys_next tokens token depth behind place front now rest h here more is =
    let whole : drop place tokens ≡ get_or tokens place token ∷ drop (place + 1) tokens = at_drop_more (λ all. all) tokens place token h in
    ap (λ all. front ++ keys_of depth all) whole
    ∙ ap (λ all. front ++ (sole_key depth all ++ keys_of (depth_behind depth (get_or tokens place token).kind) (drop (place + 1) tokens))) (sym whole ∙ sym here)
    ∙ sym (append_assoc front _ _)
    ∙ ap (λ d. (front ++ sole_key depth rest) ++ keys_of d (drop (place + 1) tokens)) (sym is)
    ∙ ap (λ f. f ++ keys_of behind (drop (place + 1) tokens)) (sym more)

pub keys_stop : (tokens : List Token) (depth place : ℕ) (front : List Token) → length tokens ≤ place → front ++ keys_of depth (drop place tokens) ≡ front
unfolding keys_of
keys_stop tokens depth place front h = rw (drop_of_length-le tokens h) (append-nil front)

-- the fourth token
pub fourth : (tokens : List Token) (token : Token) → 3 < length tokens → take 1 (drop 3 tokens) ≡ get_or tokens 3 token ∷ []
fourth tokens token h = at_drop_more (take 1) tokens 3 token h
