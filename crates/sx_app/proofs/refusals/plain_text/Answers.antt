use Rattle.sx_app.proofs.refusals.plain_text.Goals as goal

pub returns-in-BadHeader-clause-text : goal.returns-in-BadHeader-clause-text
returns-in-BadHeader-clause-text c = λ part. rw c.in-BadHeader.is (c.header_text.ensures part)

pub returns-in-TooLarge-clause-text : goal.returns-in-TooLarge-clause-text
returns-in-TooLarge-clause-text c = λ part. rw c.in-TooLarge.is (c.size_text.ensures part)
