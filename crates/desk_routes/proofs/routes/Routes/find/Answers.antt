use Rattle.desk_routes.proofs.Common.{sym}
use Rattle.desk_routes.proofs.RouteLemmas.{is_text, nothing-found, resource-found}
use Rattle.desk_routes.proofs.routes.Routes.find.Goals as goal

pub returns-in-Err : goal.returns-in-Err
returns-in-Err c = sym (nothing-found c.args.path.now _ (is_text c.args.path.now (λ i. (c.type_inv.path i).fits)) c.self.invariant c.in-Err.ensures.missing)

pub returns-in-Ok : goal.returns-in-Ok
returns-in-Ok c = resource-found c.args.path.now _ _ _ _ (is_text c.args.path.now (λ i. (c.type_inv.path i).fits)) c.utf8.path c.self.invariant c.in-Ok.ensures.found c.in-Ok.ensures.path c.resource_by_params.ensures
