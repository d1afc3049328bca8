use Rattle.std.proofs.Common.{rules, ◌≡◌, ◌↔◌, IsTrue}
use Rattle.odd_tokens.specs.declared.lexer.State.TheVariants as state
use Rattle.odd_tokens.proofs.Unfinished.{stands_between}
use Rattle.odd_tokens.proofs.lexer.Lexer.is_between.Goals as goal

pub returns : goal.returns
returns c =
    let is : IsTrue c.eq.result ↔ (c.args.self.now.state ≡ state.Between) = search rules in
    λ fresh at read h. let b = stands_between read h in (λ t. b.0 (is.0 t), λ e. is.1 (b.1 e))
