use Rattle.odd_cli.proofs.running.asides_of.Goals as goal
