-- A text and its tokens.
use Rattle.std.proofs.Common.{◌≡◌, ℕ, List, ap, subst, ◌∙◌, Result}
use Rattle.sx_ddl.specs.declared.token.Token.{Token}
use Rattle.sx_ddl.specs.declared.refused.DdlRefused.{DdlRefused}
use Rattle.sx_ddl.specs.Given.{Gives}
use Rattle.sx_ddl.specs.Tokens.{Lexed, lexed}
use Rattle.sx_ddl.specs.Shapes.{Shape, statement_of, table_of}

-- what the tokens of a text give is what the text gives
pub text_given : {B : Type 0} (text : List ℕ) (tokens : List Token) (read : Lexed) (result : Result B DdlRefused) (shown : B → Shape) →
    read ≡ lexed text → tokens ≡ read.tokens →
    Gives (statement_of text (record { tokens = tokens; end = read.end })) result shown → Gives (table_of text) result shown
unfolding table_of
text_given text tokens read result shown is same given =
    let P : Result Shape DdlRefused → Type 0 = λ e. Gives e result shown in
    subst P (ap (λ t. statement_of text (record { tokens = t; end = read.end })) same ∙ ap (statement_of text) is) given
