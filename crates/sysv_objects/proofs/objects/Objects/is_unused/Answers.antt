use Rattle.std.proofs.Common.{sym, subst}
use Rattle.sysv_model.specs.Turn.{registry_history}
use Rattle.sysv_keys.specs.Represents.{Represents as RegistryRepresents}
use Rattle.sysv_objects.specs.Objects.{Objects}
use Rattle.sysv_objects.proofs.objects.Objects.is_unused.Goals as goal

pub returns : goal.returns
returns c = λ generation turns s.
    c.is_unused.ensures generation (registry_history turns)
    (subst (λ (o : Objects). RegistryRepresents generation (registry_history turns) o.registry) (sym c.self.view_is)
    s.registry)
