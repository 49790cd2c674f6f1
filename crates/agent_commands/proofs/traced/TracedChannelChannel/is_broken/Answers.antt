use Rattle.agent_commands.proofs.traced.TracedChannelChannel.is_broken.Goals as goal

pub returns : goal.returns
returns g c = λ start h st. c.is_broken.ensures start h st.stands
