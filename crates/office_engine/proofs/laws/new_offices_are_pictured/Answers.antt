use Rattle.office_engine.proofs.laws.new_offices_are_pictured.Goals as goal

pub returns : goal.returns
returns c = λ db a b. (
  λ becomes. record { office = becomes.0.office; are = becomes.0.are; once = becomes.1 },
  λ pictured. (record { office = pictured.office; are = pictured.are }, pictured.once),
)
