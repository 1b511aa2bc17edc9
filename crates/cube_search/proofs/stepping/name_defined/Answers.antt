use Rattle.std.proofs.Common.{◌≡◌, ℕ, false, Bool, List, Contains, subst}
use Rattle.flat_cubes.specs.Using.{used}
use Rattle.cube_search.specs.Conflicts.{is_named}
use Rattle.cube_search.proofs.NameLemmas.{own-named, own-same}
use Rattle.cube_search.proofs.stepping.name_defined.Goals as goal

pub returns-then-not-names_any : goal.returns-then-not-names_any
returns-then-not-names_any c =
    let uses = used c.args.definition.now.by in
    let none = subst (λ (us : List ℕ). (v : ℕ) → Contains us v → is_named c.as_slice.result.now v ≡ false) c.uses.ensures (c.names_any.ensures c.if-not-names_any.true) in
    own-same c.args.definition.now.variable uses c.args.names (subst (λ (l : List Bool). (v : ℕ) → Contains uses v → is_named l v ≡ false) c.as_slice.ensures none)

pub returns : goal.returns
returns c = own-named c.args.definition.now.variable (used c.args.definition.now.by) c.args.names c.add_name.new.names c.in_ok-add_name.ensures
