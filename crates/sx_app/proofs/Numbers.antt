-- A text of one line with a number in it.
use Rattle.std.proofs.Common.{◌≡◌, ℕ, List, [], ◌∷◌, ◌++◌, Result, IfOk, String, string_bytes, sym, ◌∙◌, ap, append_assoc, append-nil}
use Rattle.std.proofs.lemmas.Result.{IfOk-weaker}
use Rattle.std.specs.declared.alloc.Global.{Global}
use Rattle.sx_lines.specs.Lines.{text_of}

-- a front, digits and a back, with the line's end behind them
pub numbered_line : (front digits back : List ℕ) → text_of ((front ++ (digits ++ back)) ∷ []) ≡ front ++ (digits ++ (back ++ 10 ∷ []))
numbered_line front digits back =
    append-nil _ ∙ append_assoc front (digits ++ back) (10 ∷ []) ∙ ap (λ l. front ++ l) (append_assoc digits back (10 ∷ []))

-- the same with nothing behind the digits
pub number_last : (front digits : List ℕ) → text_of ((front ++ digits) ∷ []) ≡ front ++ (digits ++ 10 ∷ [])
number_last front digits = append-nil _ ∙ append_assoc front digits (10 ∷ [])

-- a string that holds one of two equal texts holds the other
pub same_text : {E : Type 0} (r : Result (String Global) E) (x y : List ℕ) → y ≡ x → IfOk r (λ text. string_bytes text ≡ x) → IfOk r (λ text. string_bytes text ≡ y)
same_text r x y same h = IfOk-weaker r (λ text. string_bytes text ≡ x) (λ text. string_bytes text ≡ y) (λ text is. is ∙ sym same) h
