-- The policy that a table holds. Assumes nothing.
use Rattle.policy.specs.Policies.{Policy}
use Rattle.policy.specs.declared.table.PolicyTable.{PolicyTable}

abbrev pub policy_of : PolicyTable → Policy
policy_of table = record {
  roles = table.sizes.roles;
  slots = table.sizes.slots;
  persons = table.sizes.persons;
  permissions = table.permissions;
  rules = table.rules.items;
}
