-- How a policy's faults are printed: the code, and the number of the rule after a space.
use Rattle.std.specs.Prelude.{ℕ, List, ◌++◌, codes, decimal}
use Rattle.office_core.specs.declared.policy_fault.PolicyFault.{PolicyFault}
use Rattle.office_core.specs.declared.policy_fault.PolicyFault.TheVariants.{NotToml, BadVersion, UnknownKey, BadCaller, BadRule, TooMany, Memory}

abbrev pub policy_fault_text : PolicyFault → List ℕ
policy_fault_text NotToml = codes "Y1"
policy_fault_text BadVersion = codes "Y2"
policy_fault_text UnknownKey = codes "Y3"
policy_fault_text BadCaller = codes "Y4"
policy_fault_text (BadRule number) = codes "Y5 " ++ decimal number
policy_fault_text TooMany = codes "Y6"
policy_fault_text Memory = codes "Y7"
