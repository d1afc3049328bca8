use Rattle.std.proofs.Common.{ℕ, List, ap, subst, sym, take, ◌+◌, ◌∙◌}
use Rattle.odd_modes.specs.Layering.{AreKeyed, specs_of}
use Rattle.odd_modes.proofs.ByKey.{keyed_more, keyed_passed}
use Rattle.odd_text.specs.declared.key.Key.{Key}
use Rattle.odd_text.specs.declared.key.Kind.{Kind}
use Rattle.odd_modes.proofs.layer.keyed_specs.Goals as goal
use Rattle.odd_modes.proofs.layer.keyed_specs.Goals.{in-Spec+in_ok-push, in_default}

-- the key of a kind and an ident
abbrev key_with : Kind → List ℕ → Key
key_with kind ident = record { kind = kind; ident = ident }

pub loop-entry-preserved : goal.loop-entry-preserved
loop-entry-preserved c =
    let items = c.args.entries.now in
    let i = c.loop-entry.entry-index in
    let e = c.entry-item.result in
    let keyed = c.loop-entry.keyed.items in
    let specs = specs_of (take (i + 1) items) in
    elim c.match-entry.branch [
      | in-Spec+in_ok-push w ↦
          subst (AreKeyed specs) (sym (ap (λ v. v.items) w.keyed-is ∙ w.in_ok-push.ensures.items))
          (keyed_more items i e c.loop-entry-test.true c.entry-item.is keyed c.loop-entry.invariant w.in-Spec.at _ w.in-Spec.is (ap (key_with w.in-Spec.spec.key.kind) w.as_str.ensures))
      | in_default w ↦
          subst (AreKeyed specs) (sym (ap (λ v. v.items) w.keyed-is))
          (keyed_passed items i e c.loop-entry-test.true c.entry-item.is keyed c.loop-entry.invariant w.in_default.not-Spec)
    ]
