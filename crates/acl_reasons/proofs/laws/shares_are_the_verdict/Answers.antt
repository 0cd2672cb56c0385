use Rattle.acl_reasons.proofs.Deciding.{decided_once, shared_whole, granted_by_each, denied_in}
use Rattle.acl_reasons.proofs.laws.shares_are_the_verdict.Goals as goal

pub returns-clause-one : goal.returns-clause-one
returns-clause-one c = decided_once

pub returns-clause-whole : goal.returns-clause-whole
returns-clause-whole c = shared_whole

pub returns-clause-granted : goal.returns-clause-granted
returns-clause-granted c = granted_by_each

pub returns-clause-denied : goal.returns-clause-denied
returns-clause-denied c names entries mask index bit fits h = denied_in names entries mask index bit fits h
