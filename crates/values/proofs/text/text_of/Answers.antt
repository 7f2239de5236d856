use Rattle.values.proofs.Writing.{holds_the_text}
use Rattle.values.proofs.text.text_of.Goals as goal

pub returns : goal.returns
returns g c = holds_the_text c.new-text.result (g.D.Display.output c.args.value) c.write.new.self c.new-text.ensures.intact c.new-text.ensures.text (c.in_ok-write.ensures.writes)
